-- The table as it is made, and what a closed one tells.
use Rattle.std.proofs.Common.{Bool, List, Option, Some, [], ap, arith, false, get_or, inl, inr, refl, subst, sym, true}
use Rattle.std.proofs.Common.{⊎_elim, ℕ, ◌<◌, ◌∙◌, ◌≡◌, ◌≢◌, ◌≤◌, ◌⊎◌, ◌∷◌}
use mathlib.Core.Logic.{dite}
use mathlib.Core.Option.{some, some-injective}
use native.Mathlib.Decide.{ℕ_discrete}
use lib.ListN.{get_elem?}
use Rattle.atomic_table.specs.Table.{Final, Seen, State, opening}
use Rattle.nvme_model.specs.History.{Past}
use Rattle.nvme_model.specs.Passes.{IsBeginning, SharedPast, entries, places}
use Rattle.nvme_model.specs.declared.config.ConfigNumbers.{ConfigNumbers}
use Rattle.meet_lock.specs.Lock.{AreGathered, AreOfPasses, Fits, ExtendsByPasses, IsOneHistory, OwnsTicket, first_view}
use Rattle.meet_lock.specs.Lock.{unmade}
use Rattle.meet_lock.specs.declared.view.View.{View}
use Rattle.meet_lock.proofs.Beginnings.{begins-same}
use Rattle.meet_lock.proofs.Others.{only_own}
use Rattle.meet_lock.proofs.Places.{entries-unmade, places-unmade}
use Rattle.meet_lock.proofs.Taking.{only_one}
use Rattle.meet_lock.proofs.Views.{only_view, read_first}

module _ {M : Type 0} (config : M → ConfigNumbers) (history : M → Past) (legal : ConfigNumbers → Past → Type 0)
    (owned : Bool) (c : ConfigNumbers) (passes : ℕ) (before : Past) where
  abbrev Rule : State (Option M) View → Type 0
  Rule = IsOneHistory config history legal owned c passes before

  pub opens : (m : M) → config m ≡ c → history m ≡ before → 0 < passes → legal c (history m)
      → Rule (opening (0 ∷ []) (Some m ∷ []) (first_view c passes (history m)))
  opens m is shows positive right =
      let log : SharedPast = unmade (history m) in
      let same : entries log ≡ history m = entries-unmade (history m) in
      let right' : legal c (entries log) = subst (legal c) (sym same) right in
      let v : View = first_view c passes (history m) in
      let only : (P : ℕ → View → Type 0) → P 0 v → (j : ℕ) (u : View) → get_elem? (v ∷ []) j ≡ some u → P j u =
      λ P p. only_view P v p in
      record {
        log = log;
        holder = 0;
        top = 0;
        seat_of = λ _. 0;
        owner = λ _. 0;
        narrow = refl;
        right = right';
        free = λ _. (m, refl, (is, sym same));
        taken = λ ne. absurd (ne refl);
        each = only (λ j u. Fits legal c passes before log u)
            (record {
              of = λ _. refl;
              sees = λ _. begins-same passes log;
              right = λ _. (refl, right');
              mine = λ _. refl;
              heard = λ e. cc;
              opens = λ _. subst (λ x. ExtendsByPasses passes (unmade x) log) shows (begins-same passes log);
            });
        holding = only (λ j u. u.holds ≡ true → (j ≡ 0) × (0 ≢ 0) × (u.held ≡ log) × (0 < u.number)) (λ e. cc);
        numbered = only (λ j u. 0 < u.number → (0 ≡ j) × ((u.number ≤ 0) ⊎ (u.number ≡ passes)))
            (λ _. (refl, inr refl));
        first = λ u a. only (λ j u. (u.top ≡ 0) × (u.number ≡ passes)) (refl, refl) 0 u a;
        below = positive;
        owners = only (OwnsTicket owned (λ _. 0) log) ((λ _. refl), λ has. absurd (omega arith));
        ungiven = λ by above not. places-unmade by (history m) (λ e. omega arith);
        gathers = only (λ j u. AreGathered c passes 0 (λ _. 0) log j u.number u.gathered) tt;
      }

  -- what the machine is that a closed table had at home
  pub record Closed (v : View) (x : Option M) : Type 0 where
    pub machine : M
    pub is : x ≡ Some machine
    pub configured : config machine ≡ c
    pub right : legal (config machine) (history machine)
    pub begins : (whole : SharedPast) × (history machine ≡ entries whole) × (b : IsBeginning v.seen whole)
        × AreOfPasses v.passes b.0 × (places v.number whole ≡ places v.number v.seen)
    pub whole : v.passes ≡ 1 → history machine ≡ entries v.seen

  pub closes : (id : ℕ) (v : View) (n : ℕ) (x : Option M) (ws : List ℕ) (xs : List (Option M))
      → Final (Seen Rule id v) ws xs → 0 < v.number → get_elem? ws 0 ≡ some n → get_elem? xs 0 ≡ some x → n ≡ 0
      → Closed v x
  closes id v n x ws xs final named word slot free_is =
      let s : State (Option M) View = final.0 in
      let r : Rule s = final.1.0 in
      let zero_word : get_or s.words 0 0 ≡ 0 = ap (λ l. get_or l 0 0) final.2 ∙ (read_first ws n word ∙ free_is) in
      let h = r.free zero_word in
      let f = r.each id v final.1.1 in
      let g : ExtendsByPasses v.passes v.seen r.log =
      subst (λ k. ExtendsByPasses k v.seen r.log) (sym (f.of named)) (f.sees (inl named)) in
      let number_is = (r.numbered id v final.1.1 named).1 in
      let at : get_elem? xs 0 ≡ some (Some h.0) = final.4 0 (Some h.0) h.1 in
      record {
        machine = h.0;
        is = some-injective x (Some h.0) (sym slot ∙ at);
        configured = h.2.0;
        right = subst (λ (p : ConfigNumbers × Past). legal p.0 p.1) (λ i. (sym h.2.0 i, sym h.2.1 i)) r.right;
        begins = (r.log, h.2.1, g.0, g.1, f.mine named);
        whole = λ one.
            let below = r.below in
            let count = f.of named in
            let first : v.number ≡ 1 =
            ⊎_elim (λ (le : v.number ≤ r.top). absurd (omega arith)) (λ (e : v.number ≡ passes). omega arith)
            number_is in
            h.2.1 ∙ ap entries (only_own v.passes v.number v.seen r.log one first g (f.mine named));
      }

  -- and how it is configured, by the view of a pass
  pub closed_config : (id : ℕ) (v : View) (ws : List ℕ) (xs : List (Option M)) → Final (Seen Rule id v) ws xs
      → 0 < v.number → v.config ≡ c
  closed_config id v ws xs final named = ((final.1.0.each id v final.1.1).right (inl named)).0

  pub closes_one : (id : ℕ) (v : View) (n : ℕ) (ws : List ℕ) (xs : List (Option M)) → Final (Seen Rule id v) ws xs
      → get_elem? ws 0 ≡ some n → v.holds ≡ false → 0 < v.number → v.passes ≡ 1 → n ≡ 0
  closes_one id v n ws xs final word idle named one =
      let s : State (Option M) View = final.0 in
      let r : Rule s = final.1.0 in
      let is : get_or s.words 0 0 ≡ n = ap (λ l. get_or l 0 0) final.2 ∙ read_first ws n word in
      let f = r.each id v final.1.1 in
      dite (ℕ_discrete n 0) (λ e. e)
      (λ ne. absurd (only_one config history legal owned c passes before s r id v final.1.1 idle named
      (λ z. ne (sym is ∙ z)) (sym (f.of named) ∙ one)))
