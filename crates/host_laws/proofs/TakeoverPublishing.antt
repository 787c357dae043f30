-- Which Publish keeps the discipline of a slot area with takeovers.
use Rattle.std.proofs.Common.{◌≡◌, ℕ, suc, ◌+◌, Bool, true, false, not, ◌&&◌, ◌||◌, cond, List, [], ◌∷◌, ◌++◌}
use Rattle.std.proofs.Common.{length, map, refl, sym, ap, ap₂, ◌∙◌, subst, Option, Some, None, inl, inr, arith}
use Rattle.std.proofs.Common.{eqb, ltb-true, leb-true, nat_le, nat_lt}
use Rattle.std.specs.List.{list_all, list_any}
use Rattle.std.proofs.lemmas.Bool.{and_from, and_parts, cases_Bool, cond-false, cond-true, or_left, or_parts}
use Rattle.nvme_model.specs.Array.{has_block, zeros}
use Rattle.nvme_model.specs.Commands.{is_write, is_write_zeroes}
use Rattle.nvme_model.specs.Config.{completion_queue}
use Rattle.nvme_model.specs.EntryBytes.{slba, sqe_fields}
use Rattle.nvme_model.specs.History.{Past}
use Rattle.nvme_model.specs.Queues.{published_entries}
use Rattle.nvme_model.specs.Slots.{Name, Swap, fresh_names, in_area, is_pair_on_one, name_of, only_swaps, same_name}
use Rattle.nvme_model.specs.Slots.{swaps_in, touches}
use Rattle.nvme_model.specs.declared.array.Range.{Range}
use Rattle.nvme_model.specs.declared.config.ConfigNumbers.{ConfigNumbers}
use Rattle.nvme_model.specs.declared.entry.PublishLine.{PublishLine}
use Rattle.nvme_model.specs.declared.submission.Submission.{Submission}
use Rattle.nvme_model.proofs.Cut.{clash}
use Rattle.host_laws.specs.Batches.{pair_line}
use Rattle.host_laws.proofs.Discipline.{InArea, has_area}
use Rattle.host_laws.proofs.Publishing.{claim_at, claim_swaps, filter_append, no_swaps, release_at, release_swaps}
use Rattle.host_laws.proofs.SwapTickets.{on_one, touching}
use Rattle.host_laws.specs.Rules.{is_cut_off, keeps_takeover_discipline, releases_right, takeovers_within}
use Rattle.host_laws.specs.Rules.{takes_right}
use Rattle.host_laws.specs.Takeovers.{Takeover, giving, is_given_on, moves, moves_in, still_believed, takeover_by}
use Rattle.host_laws.specs.Takeovers.{takeover_of, takeovers_in}
use Rattle.host_laws.proofs.Publishing.{no_only, not_zeros, one_in, pair_only}

keeps : (c : ConfigNumbers) (slots : Range) (past : Past) (p : PublishLine) (of : List Swap) (ws : List Takeover)
    → in_area slots (moves_in p.queue (length (published_entries past p.queue)) p.batch) ≡ of
    → takeovers_within slots (takeovers_in p.queue (length (published_entries past p.queue)) p.batch) ≡ ws
    → only_swaps slots p.queue (length (published_entries past p.queue)) p.batch of ≡ true
    → fresh_names of (in_area slots (moves past)) ≡ true → releases_right c past [] of ≡ true
    → list_all (takes_right c past) ws ≡ true → is_cut_off c slots past (completion_queue c p.queue) ≡ false
    → keeps_takeover_discipline c slots past p ≡ true
keeps c slots past p of ws e w o f r t u =
    let j = length (published_entries past p.queue) in
    let first : (only_swaps slots p.queue j p.batch (in_area slots (moves_in p.queue j p.batch))
    && fresh_names (in_area slots (moves_in p.queue j p.batch)) (in_area slots (moves past))
    && releases_right c past [] (in_area slots (moves_in p.queue j p.batch))) ≡ true =
    subst (λ (xs : List Swap). (only_swaps slots p.queue j p.batch xs
    && fresh_names xs (in_area slots (moves past)) && releases_right c past [] xs) ≡ true) (sym e)
    (and_from _ _ (and_from _ _ o f) r) in
    and_from _ _ (and_from _ _ first (ap (list_all (takes_right c past)) w ∙ t)) (ap not u)

-- ---- what a pair is

no_takeover : (q j : ℕ) (a b : Submission) (m n : Option Name) → name_of a.payload ≡ m → name_of b.payload ≡ n
    → takeover_by q j (slba (sqe_fields a.entry)) m n ≡ [] → takeovers_in q j (a ∷ b ∷ []) ≡ []
no_takeover q j a b m n e f h =
    go (is_pair_on_one a b) (ap₂ (takeover_by q j (slba (sqe_fields a.entry))) e f ∙ h)
  where
    go : (p : Bool)
        → takeover_by q j (slba (sqe_fields a.entry)) (name_of a.payload) (name_of b.payload) ≡ []
        → (cond p (takeover_by q j (slba (sqe_fields a.entry)) (name_of a.payload) (name_of b.payload)) [] ++ []) ≡ []
    go true g = ap (λ (xs : List Takeover). xs ++ []) g
    go false g = refl

claim_moves : (q j : ℕ) (a b : Submission) (n : Name) → is_pair_on_one a b ≡ true → a.payload ≡ zeros
    → name_of b.payload ≡ Some n
    → (moves_in q j (a ∷ b ∷ []) ≡ claim_at q j (slba (sqe_fields a.entry)) n ∷ [])
    × (takeovers_in q j (a ∷ b ∷ []) ≡ [])
claim_moves q j a b n p z m =
    let none = no_takeover q j a b None (Some n) (ap name_of z) m refl in
    (ap₂ (λ (xs : List Swap) (ws : List Takeover). xs ++ map giving ws) (claim_swaps q j a b n p z m) none, none)

release_moves : (q j : ℕ) (a b : Submission) (n : Name) → is_pair_on_one a b ≡ true → name_of a.payload ≡ Some n
    → b.payload ≡ zeros
    → (moves_in q j (a ∷ b ∷ []) ≡ release_at q j (slba (sqe_fields a.entry)) n ∷ [])
    × (takeovers_in q j (a ∷ b ∷ []) ≡ [])
release_moves q j a b n p m z =
    let none = no_takeover q j a b (Some n) None m (ap name_of z) refl in
    (ap₂ (λ (xs : List Swap) (ws : List Takeover). xs ++ map giving ws) (release_swaps q j a b n p m z) none, none)

takeover_moves : (q j : ℕ) (a b : Submission) (m n : Name) (w : Takeover)
    → w ≡ record { queue = q; number = j; lba = slba (sqe_fields a.entry); dead = m; name = n }
    → is_pair_on_one a b ≡ true → name_of a.payload ≡ Some m → name_of b.payload ≡ Some n → eqb m.host n.host ≡ false
    → (moves_in q j (a ∷ b ∷ []) ≡ giving w ∷ []) × (takeovers_in q j (a ∷ b ∷ []) ≡ w ∷ [])
takeover_moves q j a b m n w is p e f u =
    let l = slba (sqe_fields a.entry) in
    let none : swaps_in q j (a ∷ b ∷ []) ≡ [] =
    rw (p, not_zeros a.payload m e, not_zeros b.payload n f) refl in
    let one : takeover_of q j a b ≡ w ∷ [] =
    cond-true (is_pair_on_one a b) (takeover_by q j l (name_of a.payload) (name_of b.payload)) [] p
    ∙ (ap₂ (takeover_by q j l) e f
    ∙ (cond-true (not (eqb m.host n.host)) (record { queue = q; number = j; lba = l; dead = m; name = n } ∷ []) []
    (ap not u) ∙ ap (λ (x : Takeover). x ∷ []) (sym is))) in
    let all : takeovers_in q j (a ∷ b ∷ []) ≡ w ∷ [] = ap (λ (xs : List Takeover). xs ++ []) one in
    (ap₂ (λ (xs : List Swap) (ws : List Takeover). xs ++ map giving ws) none all, all)

-- ---- which pairs keep the discipline

pub claim_keeps : (c : ConfigNumbers) (slots : Range) (past : Past) (q : ℕ) (a b : Submission) (n : Name)
    → is_pair_on_one a b ≡ true → a.payload ≡ zeros → name_of b.payload ≡ Some n
    → InArea slots (slba (sqe_fields a.entry))
    → list_any (λ w. w.claims && same_name w.name n) (in_area slots (moves past)) ≡ false
    → is_cut_off c slots past (completion_queue c q) ≡ false
    → keeps_takeover_discipline c slots past (pair_line q a b) ≡ true
claim_keeps c slots past q a b n p z m i f u =
    let j = length (published_entries past q) in
    let s = claim_at q j (slba (sqe_fields a.entry)) n in
    let x = claim_moves q j a b n p z m in
    keeps c slots past (pair_line q a b) (s ∷ []) [] (one_in slots s (moves_in q j (a ∷ b ∷ [])) x.0 i)
    (ap (takeovers_within slots) x.1) (pair_only slots q j a b s p refl) (and_from _ _ (ap not f) refl) refl refl u

pub release_keeps : (c : ConfigNumbers) (slots : Range) (past : Past) (q : ℕ) (a b : Submission) (n : Name)
    → is_pair_on_one a b ≡ true → name_of a.payload ≡ Some n → b.payload ≡ zeros
    → InArea slots (slba (sqe_fields a.entry)) → still_believed c past (slba (sqe_fields a.entry)) n ≡ true
    → is_given_on c past (completion_queue c q) (slba (sqe_fields a.entry)) n ≡ true
    → is_cut_off c slots past (completion_queue c q) ≡ false
    → keeps_takeover_discipline c slots past (pair_line q a b) ≡ true
release_keeps c slots past q a b n p m z i k o u =
    let j = length (published_entries past q) in
    let s = release_at q j (slba (sqe_fields a.entry)) n in
    let x = release_moves q j a b n p m z in
    keeps c slots past (pair_line q a b) (s ∷ []) [] (one_in slots s (moves_in q j (a ∷ b ∷ [])) x.0 i)
    (ap (takeovers_within slots) x.1) (pair_only slots q j a b s p refl) refl
    (and_from _ _ (and_from _ _ (and_from _ _ k refl) o) refl) refl u

pub takeover_keeps : (c : ConfigNumbers) (slots : Range) (past : Past) (q : ℕ) (a b : Submission) (w : Takeover)
    → w ≡ record {
      queue = q;
      number = length (published_entries past q);
      lba = slba (sqe_fields a.entry);
      dead = w.dead;
      name = w.name;
    }
    → is_pair_on_one a b ≡ true → name_of a.payload ≡ Some w.dead → name_of b.payload ≡ Some w.name
    → eqb w.dead.host w.name.host ≡ false → InArea slots w.lba
    → list_any (λ s. s.claims && same_name s.name w.name) (in_area slots (moves past)) ≡ false
    → takes_right c past w ≡ true → is_cut_off c slots past (completion_queue c q) ≡ false
    → keeps_takeover_discipline c slots past (pair_line q a b) ≡ true
takeover_keeps c slots past q a b w is p m n apart i f t u =
    let j = length (published_entries past q) in
    let x = takeover_moves q j a b w.dead w.name w is p m n apart in
    keeps c slots past (pair_line q a b) (giving w ∷ []) (w ∷ [])
    (one_in slots (giving w) (moves_in q j (a ∷ b ∷ [])) x.0 i)
    (ap (takeovers_within slots) x.1 ∙ cond-true (has_block slots w.lba) (w ∷ []) [] (has_area slots w.lba i))
    (pair_only slots q j a b (giving w) p (ap (λ (z : Takeover). z.number) is)) (and_from _ _ (ap not f) refl) refl
    (and_from _ _ t refl) u

-- ---- a Publish of which no Write touches the area

-- the second of a pair on a block of the area touches it
second_touches : (slots : Range) (a b : Submission) → is_pair_on_one a b ≡ true
    → has_block slots (slba (sqe_fields a.entry)) ≡ true → touches slots b ≡ true
second_touches slots a b p e =
    let k = on_one a b p in
    let d = sqe_fields b.entry in
    let l = slba (sqe_fields a.entry) in
    let x = and_parts (nat_le slots.slba l) (nat_lt l (slots.slba + slots.blocks)) e in
    touching slots b l (or_left (is_write d) (is_write_zeroes d) k.writes) (omega (arith, k.slba))
    (omega (arith, k.slba, k.second_one)) (leb-true slots.slba l x.0) (ltb-true l (slots.slba + slots.blocks) x.1)

none_by : (slots : Range) (q j l : ℕ) (m n : Option Name) → has_block slots l ≡ false
    → takeovers_within slots (takeover_by q j l m n) ≡ []
none_by slots q j l None n e = refl
none_by slots q j l (Some m) None e = refl
none_by slots q j l (Some m) (Some n) e = go (not (eqb m.host n.host))
  where
    go : (b : Bool)
        → takeovers_within slots (cond b (record { queue = q; number = j; lba = l; dead = m; name = n } ∷ []) []) ≡ []
    go true = cond-false (has_block slots l) (record { queue = q; number = j; lba = l; dead = m; name = n } ∷ []) [] e
    go false = refl

none_of : (slots : Range) (q j : ℕ) (a b : Submission) → touches slots b ≡ false
    → takeovers_within slots (takeover_of q j a b) ≡ []
none_of slots q j a b t = go (is_pair_on_one a b) refl
  where
    l : ℕ
    l = slba (sqe_fields a.entry)

    go : (p : Bool) → is_pair_on_one a b ≡ p
        → takeovers_within slots (cond p (takeover_by q j (slba (sqe_fields a.entry)) (name_of a.payload)
        (name_of b.payload)) []) ≡ []
    go false e = refl
    go true e = elim (cases_Bool (has_block slots (slba (sqe_fields a.entry)))) [
      | inl y ↦ clash (touches slots b) (second_touches slots a b e y) t
      | inr y ↦ none_by slots q j (slba (sqe_fields a.entry)) (name_of a.payload) (name_of b.payload) y
    ]

no_takeovers : (slots : Range) (q j : ℕ) (batch : List Submission) → list_any (touches slots) batch ≡ false
    → takeovers_within slots (takeovers_in q j batch) ≡ []
no_takeovers slots q j [] h = refl
no_takeovers slots q j (a ∷ []) h = refl
no_takeovers slots q j (a ∷ b ∷ rest) h =
    let x = or_parts (touches slots a) (list_any (touches slots) (b ∷ rest)) h in
    let y = or_parts (touches slots b) (list_any (touches slots) rest) x.1 in
    filter_append (λ w. has_block slots w.lba) (takeover_of q j a b) (takeovers_in q (suc j) (b ∷ rest))
    ∙ ap₂ (λ (u v : List Takeover). u ++ v) (none_of slots q j a b y.0) (no_takeovers slots q (suc j) (b ∷ rest) x.1)

pub given_within : (slots : Range) (ws : List Takeover)
    → in_area slots (map giving ws) ≡ map giving (takeovers_within slots ws)
given_within slots [] = refl
given_within slots (w ∷ ws) = go (has_block slots w.lba) (given_within slots ws)
  where
    go : (b : Bool) → in_area slots (map giving ws) ≡ map giving (takeovers_within slots ws)
        → cond b (giving w ∷ in_area slots (map giving ws)) (in_area slots (map giving ws))
        ≡ map giving (cond b (w ∷ takeovers_within slots ws) (takeovers_within slots ws))
    go true ih = ap (λ (xs : List Swap). giving w ∷ xs) ih
    go false ih = ih

pub outside_keeps : (c : ConfigNumbers) (slots : Range) (past : Past) (p : PublishLine)
    → list_any (touches slots) p.batch ≡ false → is_cut_off c slots past (completion_queue c p.queue) ≡ false
    → keeps_takeover_discipline c slots past p ≡ true
outside_keeps c slots past p h u =
    let j = length (published_entries past p.queue) in
    let none = no_takeovers slots p.queue j p.batch h in
    let moved : in_area slots (moves_in p.queue j p.batch) ≡ [] =
    filter_append (λ s. has_block slots s.lba) (swaps_in p.queue j p.batch)
    (map giving (takeovers_in p.queue j p.batch))
    ∙ ap₂ (λ (x y : List Swap). x ++ y) (no_swaps slots p.queue j p.batch h)
    (given_within slots (takeovers_in p.queue j p.batch) ∙ ap (map giving) none) in
    keeps c slots past p [] [] moved none (no_only slots p.queue j p.batch [] h) refl refl refl u
