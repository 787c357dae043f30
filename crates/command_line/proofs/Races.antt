-- What the options of a race say.
use Rattle.std.proofs.Common.{List, None, Option, Some, subst, sym, ◌≡◌, ◌∙◌, ℕ}
use Rattle.clap.specs.Words.{Row}
use Rattle.race_numbers.specs.Races.{numbers_of}
use Rattle.race_numbers.specs.declared.race.Race.{Race}
use Rattle.command_line.specs.Asking.{IsNoRace, SaysNumbers}

-- the numbers of a race are those that it was made of
pub says_race : (rows : List Row) (r : Race) (n : ℕ × ℕ × ℕ × ℕ × ℕ) → numbers_of r ≡ n
    → SaysNumbers rows n.0 n.1 n.2 n.3 n.4 → SaysNumbers rows r.hosts r.workers r.slots r.rounds r.queues
says_race rows r n is says = subst (λ (m : ℕ × ℕ × ℕ × ℕ × ℕ). SaysNumbers rows m.0 m.1 m.2 m.3 m.4) (sym is) says

-- none is not one
none_some : {X : Type 0} (x : X) → None ≡ Some x → ⊥
none_some x e = absurd cc

-- where no numbers were read, the options say none
pub missing : (rows : List Row) (o : Option (ℕ × ℕ × ℕ × ℕ × ℕ))
    → ((h w s r q : ℕ) → SaysNumbers rows h w s r q → o ≡ Some (h, w, s, r, q)) → o ≡ None → IsNoRace rows
missing rows o only none h w s r q says fits = none_some (h, w, s, r, q) (sym none ∙ only h w s r q says)
