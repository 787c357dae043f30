-- Which takeovers took effect, and that this stays.
use Rattle.nvme_model.specs.Tickets
use Rattle.std.proofs.Common.{◌≡◌, ℕ, true, false, ◌&&◌, [], ◌∷◌, ◌++◌, refl, ap, ◌∙◌, Option}
use Rattle.std.proofs.Common.{Some, None, inl, inr, eq-eqb, eqb, eqb-true}
use Rattle.std.proofs.lemmas.Bool.{and_from, and_parts, cases_Bool}
use Rattle.ticket_laws.proofs.Later.{ticket_later}
use Rattle.nvme_model.specs.History.{Past}
use Rattle.nvme_model.specs.Legal.{IsLegal}
use Rattle.nvme_model.specs.Operations.{is_pair, op}
use Rattle.nvme_model.specs.Slots.{Name, same_name}
use Rattle.nvme_model.specs.Tickets.{numbers_down, tickets}
use Rattle.nvme_model.specs.declared.config.ConfigNumbers.{ConfigNumbers}
use Rattle.nvme_model.specs.declared.entry.Entry.{Entry}
use Rattle.nvme_model.specs.declared.operation.Op.{Op}
use Rattle.nvme_model.proofs.Beginnings.{earlier}
use Rattle.nvme_model.proofs.Cut.{clash}
use Rattle.host_laws.specs.Calls.{says_yes, takes}
use Rattle.host_laws.proofs.Calls.{takes_later, takes_parts}
use Rattle.host_laws.proofs.Elements.{In, any_in, in_any}
use Rattle.host_laws.proofs.Later.{yes_later}
use Rattle.host_laws.proofs.Names.{name_eq, name_same}
use Rattle.host_laws.specs.Takeovers.{Takeover, is_taken, takeovers, took_effect}
use Rattle.host_laws.proofs.Effects.{in_numbers}
use Rattle.host_laws.proofs.Entries.{takeovers_later}

-- the ticket of a pair whose effect says yes
pub record TookBy (past : Past) (q j : ℕ) : Type 0 where
  pub ticket : ℕ
  pub takes : takes past ticket q j ≡ true
  pub pair : op (Tickets.ticket past ticket) ≡ Some Op.Pair
  pub yes : says_yes past ticket 0 ≡ true

is_the_pair : (o : Option Op) → is_pair o ≡ true → o ≡ Some Op.Pair
is_the_pair None h = absurd (let f : false ≡ true = h in cc)
is_the_pair (Some Op.Pair) h = refl
is_the_pair (Some Op.Read) h = absurd (let f : false ≡ true = h in cc)
is_the_pair (Some Op.Write) h = absurd (let f : false ≡ true = h in cc)
is_the_pair (Some Op.Compare) h = absurd (let f : false ≡ true = h in cc)
is_the_pair (Some Op.WriteZeroes) h = absurd (let f : false ≡ true = h in cc)

pub took_parts : (past : Past) (q j : ℕ) → took_effect past q j ≡ true → TookBy past q j
took_parts past q j h =
    let x = any_in (λ t. takes past t q j && is_pair (op (Tickets.ticket past t)) && says_yes past t 0)
    (numbers_down (tickets past)) h in
    let a = and_parts _ _ x.2 in
    let b = and_parts _ _ a.0 in
    record { ticket = x.0; takes = b.0; pair = is_the_pair _ b.1; yes = a.1 }

pub took_from : (past : Past) (q j : ℕ) → TookBy past q j → took_effect past q j ≡ true
took_from past q j x =
    let k = takes_parts past x.ticket q j x.takes in
    in_any (λ t. takes past t q j && is_pair (op (Tickets.ticket past t)) && says_yes past t 0)
    (numbers_down (tickets past)) x.ticket (in_numbers (tickets past) x.ticket k.some k.known)
    (and_from _ _ (and_from _ _ x.takes (ap is_pair x.pair)) x.yes)

took_later : (c : ConfigNumbers) (later past : Past) (q j : ℕ) → IsLegal c (later ++ past)
    → took_effect past q j ≡ true → took_effect (later ++ past) q j ≡ true
took_later c later past q j h e =
    let x = took_parts past q j e in
    let k = takes_parts past x.ticket q j x.takes in
    took_from (later ++ past) q j (record {
      ticket = x.ticket;
      takes = takes_later c later past x.ticket q j h x.takes;
      pair = ap op (ticket_later c later past x.ticket h k.known) ∙ x.pair;
      yes = yes_later c later past x.ticket 0 h (earlier c later past h) x.yes;
    })

-- ---- a name that is taken

pub record TakenBy (past : Past) (l : ℕ) (n : Name) : Type 0 where
  pub takeover : Takeover
  pub there : In takeover (takeovers past)
  pub lba : takeover.lba ≡ l
  pub dead : takeover.dead ≡ n
  pub took : took_effect past takeover.queue takeover.number ≡ true

pub taken_parts : (past : Past) (l : ℕ) (n : Name) → is_taken past l n ≡ true → TakenBy past l n
taken_parts past l n h =
    let x = any_in (λ w. eqb w.lba l && same_name w.dead n && took_effect past w.queue w.number) (takeovers past) h in
    let a = and_parts _ _ x.2 in
    let b = and_parts _ _ a.0 in
    record {
      takeover = x.0;
      there = x.1;
      lba = eqb-true _ _ b.0;
      dead = name_eq x.0.dead n b.1;
      took = a.1;
    }

pub taken_from : (past : Past) (l : ℕ) (n : Name) → TakenBy past l n → is_taken past l n ≡ true
taken_from past l n x =
    in_any (λ w. eqb w.lba l && same_name w.dead n && took_effect past w.queue w.number) (takeovers past) x.takeover
    x.there (and_from _ _ (and_from _ _ (eq-eqb _ _ x.lba) (name_same x.takeover.dead n x.dead)) x.took)

pub taken_later : (c : ConfigNumbers) (later past : Past) (l : ℕ) (n : Name) → IsLegal c (later ++ past)
    → is_taken past l n ≡ true → is_taken (later ++ past) l n ≡ true
taken_later c later past l n h e =
    let x = taken_parts past l n e in
    taken_from (later ++ past) l n (record {
      takeover = x.takeover;
      there = takeovers_later later past x.takeover x.there;
      lba = x.lba;
      dead = x.dead;
      took = took_later c later past x.takeover.queue x.takeover.number h x.took;
    })

pub untaken_before : (c : ConfigNumbers) (e : Entry) (past : Past) (l : ℕ) (n : Name) → IsLegal c (e ∷ past)
    → is_taken (e ∷ past) l n ≡ false → is_taken past l n ≡ false
untaken_before c e past l n h f = elim (cases_Bool (is_taken past l n)) [
  | inr x ↦ x
  | inl x ↦ clash (is_taken (e ∷ past) l n) (taken_later c (e ∷ []) past l n h x) f
]
