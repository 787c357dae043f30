-- What is judged by the tables is what the definitions say of the history.
use Rattle.std.proofs.Common.{◌≡◌, ℕ, suc, Bool, true, false, not, ◌&&◌, ◌||◌, cond, List, [], ◌∷◌, ◌++◌, length, map}
use Rattle.std.proofs.Common.{refl, ap, ap₂, ◌∙◌, eqb, eqb-true, None, Some, Option, is_none}
use Rattle.std.specs.List.{find, list_all, list_any}
use Rattle.std.specs.Option.{option_map}
use Rattle.std.proofs.lemmas.List.Folds.{list_any-append}
use Rattle.std.proofs.Math.Bool.{and-true}
use Rattle.plain_lemmas.proofs.Lists.{any_same}
use Rattle.nvme_model.specs.Array.{has_block}
use Rattle.nvme_model.specs.Config.{completion_queue}
use Rattle.nvme_model.specs.History.{Past}
use Rattle.nvme_model.specs.Queues.{published_entries}
use Rattle.nvme_model.specs.Slots.{Name, Swap, fresh_names, in_area, only_swaps, reaped_success, releases, same_name}
use Rattle.nvme_model.specs.Slots.{swaps, touches}
use Rattle.nvme_model.specs.declared.array.Range.{Range}
use Rattle.nvme_model.specs.declared.config.ConfigNumbers.{ConfigNumbers}
use Rattle.nvme_model.specs.declared.entry.PublishLine.{PublishLine}
use Rattle.nvme_model.specs.declared.submission.Submission.{Submission}
use Rattle.host_laws.specs.Rules.{keeps_takeover_discipline, releases_right, takeovers_within, takes_right}
use Rattle.host_laws.specs.Takeovers.{Takeover, giving, is_given_on, is_kept, is_taken, moves, moves_in, takeovers}
use Rattle.host_laws.specs.Takeovers.{takeovers_in}
use Rattle.slot_check.specs.Batch.{claimed_twice_in, release_broken_in, takeover_broken_in}
use Rattle.slot_check.specs.Broken.{claimed_twice, cut_off_at, cuts_off, first_of, first_touched, is_given}
use Rattle.slot_check.specs.Broken.{publish_broken, release_broken, release_fault, slots_broken_by, takeover_broken}
use Rattle.slot_check.specs.Broken.{write_alone}
use Rattle.slot_check.specs.Names.{KeptNames, KnowsNames, believes, gives}
use Rattle.slot_check.specs.Takeovers.{KeptTakeovers, KnowsTakeovers}
use Rattle.slot_check.specs.declared.broken.BrokenDiscipline.{BrokenDiscipline}
use Rattle.slot_check.specs.declared.broken.BrokenDiscipline.TheVariants.{NeverGiven, OwnQueue}
use Rattle.slot_check.proofs.Knowing.{believes_is, gives_is, in_area_any, twice_is}

-- ---- releases

abbrev AllIn : Range → List Swap → Type 0
AllIn slots [] = Unit {0}
AllIn slots (s ∷ xs) = (has_block slots s.lba ≡ true) × AllIn slots xs

area_in : (slots : Range) (xs : List Swap) → AllIn slots (in_area slots xs)
area_in slots [] = tt
area_in slots (s ∷ xs) = go (has_block slots s.lba) refl (area_in slots xs)
  where
    go : (b : Bool) → has_block slots s.lba ≡ b → AllIn slots (in_area slots xs)
        → AllIn slots (cond b (s ∷ in_area slots xs) (in_area slots xs))
    go true e ih = (e, ih)
    go false e ih = ih

lba_first : (a b d e : Bool) → (((a && b) && d) && e) ≡ true → b ≡ true
lba_first true true d e h = refl
lba_first true false d e h = absurd cc
lba_first false b d e h = absurd cc

lba_of_release : (a b d : Bool) → ((a && b) && d) ≡ true → b ≡ true
lba_of_release true true d h = refl
lba_of_release true false d h = absurd cc
lba_of_release false b d h = absurd cc

-- no takeover releases a name
no_giving : (ws : List Takeover) (l : ℕ) (n : Name) → list_any (λ s. releases s l n) (map giving ws) ≡ false
no_giving [] l n = refl
no_giving (w ∷ ws) l n = no_giving ws l n

or_none : (b x : Bool) → x ≡ false → (b || x) ≡ b
or_none true x e = refl
or_none false x e = e

released_moves : (past : Past) (l : ℕ) (n : Name)
    → list_any (λ s. releases s l n) (moves past) ≡ list_any (λ s. releases s l n) (swaps past)
released_moves past l n = list_any-append (λ s. releases s l n) (swaps past) (map giving (takeovers past))
    ∙ or_none (list_any (λ s. releases s l n) (swaps past)) _ (no_giving (takeovers past) l n)

abbrev AllWithin : Range → List Takeover → Type 0
AllWithin slots [] = Unit {0}
AllWithin slots (w ∷ ws) = (has_block slots w.lba ≡ true) × AllWithin slots ws

within : (slots : Range) (ws : List Takeover) → AllWithin slots (takeovers_within slots ws)
within slots [] = tt
within slots (w ∷ ws) = go (has_block slots w.lba) refl (within slots ws)
  where
    go : (b : Bool) → has_block slots w.lba ≡ b → AllWithin slots (takeovers_within slots ws)
        → AllWithin slots (cond b (w ∷ takeovers_within slots ws) (takeovers_within slots ws))
    go true e ih = (e, ih)
    go false e ih = ih

module _ (c : ConfigNumbers) (slots : Range) (past : Past) (k : KeptNames)
    (h : KnowsNames (reaped_success c past) (in_area slots (moves past)) k) where
  -- what a name's claim gives is what some claim or takeover of the history does
  pub given_is : (l : ℕ) (n : Name) (test : Swap → Bool) → has_block slots l ≡ true
      → gives l test (k.claim n)
      ≡ list_any (λ s. ((s.claims && eqb s.lba l) && same_name s.name n) && test s) (moves past)
  given_is l n test i = gives_is (reaped_success c past) (in_area slots (moves past)) k l n test h
      ∙ in_area_any slots l (λ s. ((s.claims && eqb s.lba l) && same_name s.name n) && test s) (moves past) i
      (λ s e. eqb-true s.lba l (lba_first s.claims (eqb s.lba l) (same_name s.name n) (test s) e))

  kept_is : (l : ℕ) (n : Name) → has_block slots l ≡ true → believes k l n ≡ is_kept c past l n
  kept_is l n i = believes_is (reaped_success c past) (in_area slots (moves past)) k l n h
      ∙ ap₂ (λ (x y : Bool). x && not y)
      (in_area_any slots l (λ s. ((s.claims && eqb s.lba l) && same_name s.name n) && reaped_success c past s.queue
      (suc s.number))
      (moves past) i
      (λ s e. eqb-true s.lba l (lba_first s.claims (eqb s.lba l) (same_name s.name n)
      (reaped_success c past s.queue (suc s.number)) e)))
      (in_area_any slots l (λ s. releases s l n) (moves past) i
      (λ s e. eqb-true s.lba l (lba_of_release (not s.claims) (eqb s.lba l) (same_name s.name n) e))
      ∙ released_moves past l n)

  releases_are : (taken : ℕ → Name → Bool)
      → ((l : ℕ) (n : Name) → has_block slots l ≡ true → taken l n ≡ is_taken past l n) → (earlier xs : List Swap)
      → AllIn slots xs → release_broken_in c k taken earlier xs ≡ release_broken c past earlier xs
  releases_are taken t earlier [] a = refl
  releases_are taken t earlier (s ∷ later) a =
      ap₂ first_of
      (λ i. cond s.claims None (release_fault s.lba
      (kept_is s.lba s.name a.0 i && not (list_any (λ w. releases w s.lba s.name) earlier))
      (t s.lba s.name a.0 i)
      (given_is s.lba s.name (λ w. eqb (completion_queue c w.queue) (completion_queue c s.queue)) a.0 i)))
      (releases_are taken t (earlier ++ s ∷ []) later a.1)

  takeovers_are : (ws : List Takeover) → AllWithin slots ws
      → takeover_broken_in c k ws ≡ takeover_broken c past ws
  takeovers_are [] a = refl
  takeovers_are (w ∷ ws) a =
      ap₂ first_of
      (ap₂ (λ (x y : Bool). cond x None (cond y (Some (OwnQueue w.lba)) (Some (NeverGiven w.lba))))
      (given_is w.lba w.dead (λ s. not (eqb (completion_queue c s.queue) (completion_queue c w.queue))) a.0)
      (given_is w.lba w.dead (λ _. true) a.0
      ∙ any_same (λ s. ((s.claims && eqb s.lba w.lba) && same_name s.name w.dead) && true)
      (λ s. (s.claims && eqb s.lba w.lba) && same_name s.name w.dead) (moves past)
      (λ s. and-true ((s.claims && eqb s.lba w.lba) && same_name s.name w.dead))))
      (takeovers_are ws a.1)

  pub judged_is : (p : PublishLine) (first : ℕ) (of : List Swap) (ws : List Takeover) (kept : KeptTakeovers)
      → KnowsTakeovers c slots past kept
      → first ≡ length (published_entries past p.queue)
      → of ≡ in_area slots (moves_in p.queue first p.batch)
      → ws ≡ takeovers_within slots (takeovers_in p.queue first p.batch)
      → slots_broken_by (write_alone slots p.queue first p.batch of) (claimed_twice_in k of)
      (release_broken_in c k kept.taken [] of) (takeover_broken_in c k ws) (kept.cut (completion_queue c p.queue))
      ≡ publish_broken c slots past p
  judged_is p first of ws kept t e f g =
      let j = length (published_entries past p.queue) in
      let all = in_area slots (moves_in p.queue j p.batch) in
      let these = takeovers_within slots (takeovers_in p.queue j p.batch) in
      let same : of ≡ all = f ∙ ap (λ (n : ℕ). in_area slots (moves_in p.queue n p.batch)) e in
      let same_ws : ws ≡ these =
      g ∙ ap (λ (n : ℕ). takeovers_within slots (takeovers_in p.queue n p.batch)) e in
      (λ i. slots_broken_by (write_alone slots p.queue (e i) p.batch (same i)) (claimed_twice_in k (same i))
      (release_broken_in c k kept.taken [] (same i)) (takeover_broken_in c k (same_ws i))
      (t.cut (completion_queue c p.queue) i))
      ∙ (λ i. slots_broken_by (write_alone slots p.queue j p.batch all)
      (twice_is (reaped_success c past) (in_area slots (moves past)) k all h i)
      (releases_are kept.taken t.taken [] all (area_in slots (moves_in p.queue j p.batch)) i)
      (takeovers_are these (within slots (takeovers_in p.queue j p.batch)) i)
      (cut_off_at c slots past (completion_queue c p.queue)))

-- ---- the discipline

any_back : (p : Swap → Bool) (xs : List Swap) (s : Swap) → list_any p (xs ++ s ∷ []) ≡ list_any p (s ∷ xs)
any_back p [] s = refl
any_back p (x ∷ xs) s = ap (λ (b : Bool). p x || b) (any_back p xs s) ∙ swap (p x) (p s) (list_any p xs)
  where
    swap : (a b d : Bool) → (a || (b || d)) ≡ (b || (a || d))
    swap true true d = refl
    swap true false d = refl
    swap false b d = refl

none_broken : (c : ConfigNumbers) (past : Past) (xs ys of : List Swap)
    → ((l : ℕ) (n : Name) → list_any (λ w. releases w l n) xs ≡ list_any (λ w. releases w l n) ys)
    → is_none (release_broken c past xs of) ≡ releases_right c past ys of
none_broken c past xs ys [] e = refl
none_broken c past xs ys (s ∷ later) e =
    go s.claims (is_kept c past s.lba s.name) (is_taken past s.lba s.name)
    (is_given_on c past (completion_queue c s.queue) s.lba s.name)
    (list_any (λ w. releases w s.lba s.name) xs) (list_any (λ w. releases w s.lba s.name) ys) (e s.lba s.name)
    (none_broken c past (xs ++ s ∷ []) (s ∷ ys) later (λ l n. any_back (λ w. releases w l n) xs s
    ∙ ap (λ (b : Bool). releases s l n || b) (e l n)))
  where
    go : (claims b t q x y : Bool) → x ≡ y
        → is_none (release_broken c past (xs ++ s ∷ []) later) ≡ releases_right c past (s ∷ ys) later
        → is_none (first_of (cond claims None (release_fault s.lba (b && not x) t q))
        (release_broken c past (xs ++ s ∷ []) later))
        ≡ ((claims || (((b && not t) && not y) && q)) && releases_right c past (s ∷ ys) later)
    go true b t q x y f ih = refl ∙ ih
    go false true false true false false f ih = ih
    go false true false false false false f ih = refl
    go false true true q false false f ih = refl
    go false true false q true true f ih = refl
    go false true true q true true f ih = refl
    go false false t q x y f ih = refl
    go false true t q true false f ih = absurd cc
    go false true t q false true f ih = absurd cc

-- no Write is alone exactly where each is of a claim or release
alone_none : (slots : Range) (q j : ℕ) (batch : List Submission) (of : List Swap)
    → is_none (write_alone slots q j batch of) ≡ only_swaps slots q j batch of
alone_none slots q j [] of = refl
alone_none slots q j (s ∷ batch) of =
    go (touches slots s) (list_any (λ w. eqb (suc w.number) j) of) (alone_none slots q (suc j) batch of)
  where
    go : (t o : Bool) → is_none (write_alone slots q (suc j) batch of) ≡ only_swaps slots q (suc j) batch of
        → is_none (cond (t && not o) (Some (first_touched slots s)) (write_alone slots q (suc j) batch of))
        ≡ ((not t || o) && only_swaps slots q (suc j) batch of)
    go true true ih = ih
    go true false ih = refl
    go false o ih = ih

-- no name is claimed twice exactly where all are fresh
pub twice_none : (xs before : List Swap) → is_none (claimed_twice xs before) ≡ fresh_names xs before
twice_none [] before = refl
twice_none (s ∷ later) before =
    go s.claims (list_any (λ w. w.claims && same_name w.name s.name) (later ++ before)) (twice_none later before)
  where
    go : (a b : Bool) → is_none (claimed_twice later before) ≡ fresh_names later before
        → is_none (cond (a && b) (Some s.lba) (claimed_twice later before))
        ≡ ((not a || not b) && fresh_names later before)
    go true true ih = refl
    go true false ih = ih
    go false b ih = ih

-- no takeover is wrong exactly where each is right
takes_none : (c : ConfigNumbers) (past : Past) (ws : List Takeover)
    → is_none (takeover_broken c past ws) ≡ list_all (takes_right c past) ws
takes_none c past [] = refl
takes_none c past (w ∷ ws) = go (takes_right c past w) (is_given past w.lba w.dead) (takes_none c past ws)
  where
    go : (a b : Bool) → is_none (takeover_broken c past ws) ≡ list_all (takes_right c past) ws
        → is_none (first_of (cond a None (cond b (Some (OwnQueue w.lba)) (Some (NeverGiven w.lba))))
        (takeover_broken c past ws)) ≡ (a && list_all (takes_right c past) ws)
    go true b ih = ih
    go false true ih = refl
    go false false ih = refl

none_found : (test : Takeover → Bool) (ws : List Takeover)
    → is_none (option_map (λ (w : Takeover). w.lba) (find test ws)) ≡ not (list_any test ws)
none_found test [] = refl
none_found test (w ∷ ws) = go (test w) (none_found test ws)
  where
    go : (b : Bool) → is_none (option_map (λ (w : Takeover). w.lba) (find test ws)) ≡ not (list_any test ws)
        → is_none (option_map (λ (w : Takeover). w.lba) (cond b (Some w) (find test ws)))
        ≡ not (b || list_any test ws)
    go true ih = refl
    go false ih = ih

none_of_five : (w t : Option ℕ) (o u : Option BrokenDiscipline) (d : Option ℕ)
    → is_none (slots_broken_by w t o u d)
    ≡ ((((is_none w && is_none t) && is_none o) && is_none u) && is_none d)
none_of_five None None None None None = refl
none_of_five None None None None (Some l) = refl
none_of_five None None None (Some b) d = refl
none_of_five None None (Some b) u d = refl
none_of_five None (Some l) o u d = refl
none_of_five (Some l) t o u d = refl

pub keeps_is : (c : ConfigNumbers) (slots : Range) (past : Past) (p : PublishLine)
    → is_none (publish_broken c slots past p) ≡ keeps_takeover_discipline c slots past p
keeps_is c slots past p =
    let j = length (published_entries past p.queue) in
    let of = in_area slots (moves_in p.queue j p.batch) in
    let ws = takeovers_within slots (takeovers_in p.queue j p.batch) in
    none_of_five (write_alone slots p.queue j p.batch of) (claimed_twice of (in_area slots (moves past)))
    (release_broken c past [] of) (takeover_broken c past ws)
    (cut_off_at c slots past (completion_queue c p.queue))
    ∙ (λ i. (((alone_none slots p.queue j p.batch of i && twice_none of (in_area slots (moves past)) i)
    && none_broken c past [] [] of (λ l n. refl) i) && takes_none c past ws i)
    && none_found (cuts_off c slots past (completion_queue c p.queue)) (takeovers past) i)
