-- A host of whom a takeover was published publishes nothing more, and one that isn't is right in what it believes.
use Rattle.std.proofs.Common.{◌≡◌, ℕ, true, false, not, ◌&&◌, [], ◌∷◌, ◌++◌, refl, ap, ◌∙◌, subst}
use Rattle.std.proofs.Common.{inl, inr, eqb, eqb-true}
use Rattle.std.proofs.lemmas.Bool.{and_from, and_parts, cases_Bool}
use Rattle.nvme_model.specs.Array.{has_block}
use Rattle.nvme_model.specs.Config.{completion_queue}
use Rattle.nvme_model.specs.History.{Past}
use Rattle.nvme_model.specs.Slots.{Name, same_name}
use Rattle.nvme_model.specs.declared.array.Range.{Range}
use Rattle.nvme_model.specs.declared.config.ConfigNumbers.{ConfigNumbers}
use Rattle.nvme_model.specs.declared.entry.Entry.{Entry}
use Rattle.nvme_model.specs.declared.entry.PublishLine.{PublishLine}
use Rattle.nvme_model.proofs.Cut.{clash}
use Rattle.host_laws.proofs.Elements.{any_in, in_any}
use Rattle.host_laws.specs.Rules.{IsFenced, is_cut_off, is_silent, takeover_disciplined}
use Rattle.host_laws.specs.Takeovers.{is_given_on, is_kept, is_taken, moves, still_believed, takeovers}
use Rattle.host_laws.proofs.TakeoverDiscipline.{kept}
use Rattle.host_laws.proofs.Entries.{moves_later, takeovers_later}
use Rattle.host_laws.proofs.Taking.{taken_parts}

pub given_later : (c : ConfigNumbers) (later past : Past) (q l : ℕ) (n : Name) → is_given_on c past q l n ≡ true
    → is_given_on c (later ++ past) q l n ≡ true
given_later c later past q l n h =
    let x = any_in (λ w. w.claims && eqb w.lba l && same_name w.name n && eqb (completion_queue c w.queue) q)
    (moves past) h in
    in_any (λ w. w.claims && eqb w.lba l && same_name w.name n && eqb (completion_queue c w.queue) q)
    (moves (later ++ past)) x.0 (moves_later later past x.0 x.1) x.2

pub cut_later : (c : ConfigNumbers) (slots : Range) (later past : Past) (q : ℕ) → is_cut_off c slots past q ≡ true
    → is_cut_off c slots (later ++ past) q ≡ true
cut_later c slots later past q h =
    let x = any_in (λ w. has_block slots w.lba && is_given_on c past q w.lba w.dead) (takeovers past) h in
    let a = and_parts _ _ x.2 in
    in_any (λ w. has_block slots w.lba && is_given_on c (later ++ past) q w.lba w.dead) (takeovers (later ++ past)) x.0
    (takeovers_later later past x.0 x.1)
    (and_from _ _ a.0 (given_later c later past q x.0.lba x.0.dead a.1))

silent : (c : ConfigNumbers) (slots : Range) (past : Past) (q : ℕ) (p : PublishLine)
    → is_cut_off c slots past (completion_queue c p.queue) ≡ false → is_cut_off c slots past q ≡ true
    → is_silent c q (Entry.Publish p) ≡ true
silent c slots past q p u h = elim (cases_Bool (eqb (completion_queue c p.queue) q)) [
  | inr e ↦ ap not e
  | inl e ↦ clash (is_cut_off c slots past q) h
      (subst (λ (r : ℕ). is_cut_off c slots past r ≡ false) (eqb-true _ _ e) u)
]

pub fenced : (c : ConfigNumbers) (slots : Range) (later past : Past) (q : ℕ)
    → takeover_disciplined c slots (later ++ past) ≡ true → is_cut_off c slots past q ≡ true → IsFenced c q later
fenced c slots [] past q d h = refl
fenced c slots (Entry.Publish p ∷ later) past q d h =
    let k = kept c slots (later ++ past) p d in
    and_from _ _ (silent c slots (later ++ past) q p k.uncut (cut_later c slots later past q h))
    (fenced c slots later past q k.before h)
fenced c slots (Entry.Fetch p ∷ later) past q d h = fenced c slots later past q d h
fenced c slots (Entry.Grant p ∷ later) past q d h = fenced c slots later past q d h
fenced c slots (Entry.Block p ∷ later) past q d h = fenced c slots later past q d h
fenced c slots (Entry.Post p ∷ later) past q d h = fenced c slots later past q d h
fenced c slots (Entry.Reap p ∷ later) past q d h = fenced c slots later past q d h

-- no takeover of a name of a host that isn't fenced took effect
pub untaken : (c : ConfigNumbers) (slots : Range) (past : Past) (q l : ℕ) (n : Name) → has_block slots l ≡ true
    → is_given_on c past q l n ≡ true → is_cut_off c slots past q ≡ false → is_taken past l n ≡ false
untaken c slots past q l n v g u = elim (cases_Bool (is_taken past l n)) [
  | inr e ↦ e
  | inl e ↦
      let x = taken_parts past l n e in
      clash (is_cut_off c slots past q)
      (in_any (λ w. has_block slots w.lba && is_given_on c past q w.lba w.dead) (takeovers past) x.takeover x.there
      (and_from _ _ (ap (has_block slots) x.lba ∙ v)
      (ap (λ (i : ℕ). is_given_on c past q i x.takeover.dead) x.lba ∙ (ap (is_given_on c past q l) x.dead ∙ g)))) u
]

pub unfenced_believed : (c : ConfigNumbers) (slots : Range) (past : Past) (q l : ℕ) (n : Name)
    → has_block slots l ≡ true → is_kept c past l n ≡ true → is_given_on c past q l n ≡ true
    → is_cut_off c slots past q ≡ false → still_believed c past l n ≡ true
unfenced_believed c slots past q l n v k g u =
    and_from (is_kept c past l n) (not (is_taken past l n)) k (ap not (untaken c slots past q l n v g u))
