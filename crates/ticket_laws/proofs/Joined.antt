-- The units of a ticket are read one after the other.
use Rattle.std.proofs.Common.{◌≡◌, ℕ, zero, suc, ◌≤◌, ◌<◌, Bool, true, false, not, ◌&&◌, cond, List, [], ◌∷◌, ◌++◌}
use Rattle.std.proofs.Common.{length, refl, sym, ap, ◌∙◌, inl, inr, ◌⊎◌, arith, eq-eqb, ne_eqb, eqb, eqb-true}
use Rattle.std.proofs.Common.{append_assoc}
use Rattle.std.specs.List.{filter}
use Rattle.std.proofs.lemmas.List.{append-nil}
use Rattle.std.proofs.lemmas.Bool.{and_from, and_right, cond-true, cond-false, cases_Bool, eqb-false}
use Rattle.nvme_model.proofs.Apart.{ended_kept, fetch_ended, granted_known, unless}
use Rattle.nvme_model.proofs.Blocks.{may_block, no_blocks}
use Rattle.nvme_model.proofs.Lists.{Each, each_both, each_filter, each_find, each_map}
use Rattle.nvme_model.proofs.Medium.{is_open, none_each, unfilter}
use Rattle.ticket_laws.proofs.ReadSoFar.{no_bytes, unit_bytes}
use Rattle.nvme_model.proofs.Rules.{follows, may_grant}
use Rattle.nvme_model.specs.History.{Past}
use Rattle.nvme_model.specs.Legal.{IsLegal}
use Rattle.nvme_model.specs.Medium.{medium}
use Rattle.nvme_model.specs.Open.{granted, grants_of, has_ended, is_read_found, open_units}
use Rattle.ticket_laws.specs.Standing.{bytes_read}
use Rattle.nvme_model.specs.Tickets.{ticket}
use Rattle.nvme_model.specs.declared.config.ConfigNumbers.{ConfigNumbers}
use Rattle.nvme_model.specs.declared.entry.Entry.{Entry}
use Rattle.nvme_model.specs.declared.entry.GrantLine.{GrantLine}
use Rattle.nvme_model.specs.Tickets

abbrev pub IsLast : Past → GrantLine → Type 0
IsLast past x = is_open past x ≡ true → suc x.unit ≡ grants_of past x.ticket

-- an open unit is the last that its ticket was granted
pub open_last : (c : ConfigNumbers) (past : Past) → IsLegal c past → Each (IsLast past) (granted past)
open_last c [] h = tt
open_last c (Entry.Fetch f ∷ past) h =
    let before = (follows c past (Entry.Fetch f) h).before in
    each_map (λ x. (x.ticket ≤ Tickets.tickets past) × IsLast past x) (IsLast (Entry.Fetch f ∷ past))
    (λ x y o. y.1 (sym (ap not (fetch_ended c past f x.ticket x.unit x.range.blocks h y.0)) ∙ o)) (granted past)
    (each_both (λ x. x.ticket ≤ Tickets.tickets past) (IsLast past) (granted past) (granted_known c past before)
    (open_last c past before))
open_last c (Entry.Grant g ∷ past) h =
    let before = (follows c past (Entry.Grant g) h).before in
    let m = may_grant c past g h in
    let closed = unfilter (λ x. eqb x.ticket g.ticket ≡ false) (is_open past) (granted past)
    (none_each (λ x. eqb x.ticket g.ticket) (open_units past) m.closed) in (
      (λ o. ap suc m.unit ∙ sym
          (ap length (cond-true (eqb g.ticket g.ticket) (g ∷ filter (λ x. eqb x.ticket g.ticket) (granted past))
          (filter (λ x. eqb x.ticket g.ticket) (granted past)) (eq-eqb g.ticket g.ticket refl)))),
      each_map (λ x. (is_open past x ≡ true → eqb x.ticket g.ticket ≡ false) × IsLast past x)
          (IsLast (Entry.Grant g ∷ past))
          (λ x y o. y.1 o ∙ sym (ap length
          (cond-false (eqb g.ticket x.ticket) (g ∷ filter (λ z. eqb z.ticket x.ticket) (granted past))
          (filter (λ z. eqb z.ticket x.ticket) (granted past))
          (ne_eqb g.ticket x.ticket (λ e. eqb-false x.ticket g.ticket (y.0 o) (sym e))))))
          (granted past) (each_both (λ x. is_open past x ≡ true → eqb x.ticket g.ticket ≡ false) (IsLast past)
          (granted past) closed (open_last c past before)),
    )
open_last c (Entry.Block b ∷ past) h =
    each_map (IsLast past) (IsLast (Entry.Block b ∷ past))
    (λ x y o. y (unless (has_ended past x.ticket x.unit x.range.blocks)
    (has_ended (Entry.Block b ∷ past) x.ticket x.unit x.range.blocks)
    (ended_kept past b x.ticket x.unit x.range.blocks) o))
    (granted past) (open_last c past (follows c past (Entry.Block b) h).before)
open_last c (Entry.Publish x ∷ past) h = open_last c past (follows c past (Entry.Publish x) h).before
open_last c (Entry.Post x ∷ past) h = open_last c past (follows c past (Entry.Post x) h).before
open_last c (Entry.Reap x ∷ past) h = open_last c past (follows c past (Entry.Reap x) h).before

-- what the first n units of ticket t have read
abbrev pub joined : Past → ℕ → ℕ → List ℕ
joined past t zero = []
joined past t (suc n) = joined past t n ++ unit_bytes past t n

joined_same : (later past : Past) (t n : ℕ) → ((u : ℕ) → u < n → unit_bytes later t u ≡ unit_bytes past t u)
    → joined later t n ≡ joined past t n
joined_same later past t zero h = refl
joined_same later past t (suc n) h =
    (λ i. joined_same later past t n (λ u l. h u (omega (arith, l))) i ++ h n (omega arith) i)

pub bytes_joined : (c : ConfigNumbers) (past : Past) (t : ℕ) → IsLegal c past
    → bytes_read past t ≡ joined past t (grants_of past t)
bytes_joined c [] t h = refl
bytes_joined c (Entry.Publish x ∷ past) t h = bytes_joined c past t (follows c past (Entry.Publish x) h).before
    ∙ sym (joined_same (Entry.Publish x ∷ past) past t (grants_of past t) (λ u l. refl))
bytes_joined c (Entry.Fetch x ∷ past) t h = bytes_joined c past t (follows c past (Entry.Fetch x) h).before
    ∙ sym (joined_same (Entry.Fetch x ∷ past) past t (grants_of past t) (λ u l. refl))
bytes_joined c (Entry.Post x ∷ past) t h = bytes_joined c past t (follows c past (Entry.Post x) h).before
    ∙ sym (joined_same (Entry.Post x ∷ past) past t (grants_of past t) (λ u l. refl))
bytes_joined c (Entry.Reap x ∷ past) t h = bytes_joined c past t (follows c past (Entry.Reap x) h).before
    ∙ sym (joined_same (Entry.Reap x ∷ past) past t (grants_of past t) (λ u l. refl))
bytes_joined c (Entry.Grant g ∷ past) t h =
    let before = (follows c past (Entry.Grant g) h).before in
    let none = no_bytes past t (grants_of past t) (no_blocks c past t (grants_of past t) before (omega arith)) in
    bytes_joined c past t before ∙ by (eqb g.ticket t) none
  where
    gs : List GrantLine
    gs = filter (λ x. eqb x.ticket t) (granted past)

    by : (k : Bool) → unit_bytes past t (length gs) ≡ []
        → joined past t (length gs) ≡ joined (Entry.Grant g ∷ past) t (length (cond k (g ∷ gs) gs))
    by true none = sym (ap (λ xs. joined past t (length gs) ++ xs) none ∙ append-nil (joined past t (length gs)))
        ∙ sym (joined_same (Entry.Grant g ∷ past) past t (suc (length gs)) (λ u l. refl))
    by false none = sym (joined_same (Entry.Grant g ∷ past) past t (length gs) (λ u l. refl))
bytes_joined c (Entry.Block b ∷ past) t h =
    let before = (follows c past (Entry.Block b) h).before in
    let m = may_block c past b h in
    let last = each_find (λ x. suc x.unit ≡ grants_of past x.ticket) (λ x. eqb x.ticket b.ticket) (open_units past) m.0
    (each_filter (IsLast past) (λ x. suc x.unit ≡ grants_of past x.ticket) (is_open past) (λ x y o. y o) (granted past)
    (open_last c past before)) m.1 in
    by (cases_Bool (eqb b.ticket t)) (bytes_joined c past t before)
    (ap suc m.2.unit ∙ last.0 ∙ ap (grants_of past) m.2.ticket)
  where
    chunk : Bool → List ℕ
    chunk k = cond (k && is_read_found b.found) (medium past b.lba) []

    by : ((eqb b.ticket t ≡ true) ⊎ (eqb b.ticket t ≡ false)) → bytes_read past t ≡ joined past t (grants_of past t)
        → suc b.unit ≡ grants_of past b.ticket
        → bytes_read past t ++ chunk (eqb b.ticket t) ≡ joined (Entry.Block b ∷ past) t (grants_of past t)
    by (inr e) ih last =
        ap (λ k. bytes_read past t ++ chunk k) e ∙ append-nil (bytes_read past t) ∙ ih
        ∙ sym (joined_same (Entry.Block b ∷ past) past t (grants_of past t)
        (λ u l. ap (λ k. unit_bytes past t u ++ chunk (k && eqb b.unit u)) e ∙ append-nil (unit_bytes past t u)))
    by (inl e) ih last =
        let n : suc b.unit ≡ grants_of past t = last ∙ ap (grants_of past) (eqb-true b.ticket t e) in
        let own : unit_bytes (Entry.Block b ∷ past) t b.unit ≡ unit_bytes past t b.unit ++ chunk true =
        ap (λ k. unit_bytes past t b.unit ++ chunk k) (and_from _ _ e (eq-eqb b.unit b.unit refl)) in
        let lower : joined (Entry.Block b ∷ past) t b.unit ≡ joined past t b.unit =
        joined_same (Entry.Block b ∷ past) past t b.unit
        (λ u l. ap (λ k. unit_bytes past t u ++ chunk k)
        (and_right (eqb b.ticket t) (eqb b.unit u) (ne_eqb b.unit u (λ q. omega (arith, q, l))))
        ∙ append-nil (unit_bytes past t u)) in
        ap (λ k. bytes_read past t ++ chunk k) e
        ∙ ap (λ xs. xs ++ chunk true) (ih ∙ ap (joined past t) (sym n))
        ∙ append_assoc (joined past t b.unit) (unit_bytes past t b.unit) (chunk true)
        ∙ (λ i. sym lower i ++ sym own i)
        ∙ ap (joined (Entry.Block b ∷ past) t) n
