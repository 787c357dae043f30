-- How a drawing goes on with an entry.
use Rattle.std.proofs.Common.{Bool, List, None, Option, Some, [], ap, arith, cond, false, is_some, length, nat_lt, refl}
use Rattle.std.proofs.Common.{subst, suc, sym, true, ℕ, ◌+◌, ◌∙◌, ◌∷◌, ◌≡◌, ◌≤◌}
use Rattle.std.specs.Prelude.{unwrap_or}
use Rattle.std.proofs.lemmas.Bool.Decides.{nat_tests}
use Rattle.nvme_model.specs.FirstBad.{earlier_or, first_bad_of}
use Rattle.nvme_model.specs.History.{Past}
use Rattle.nvme_model.specs.Legal.{may_follow}
use Rattle.nvme_model.specs.declared.config.ConfigNumbers.{ConfigNumbers}
use Rattle.nvme_model.specs.declared.entry.Entry.{Entry}
use Rattle.casdisk_texts.specs.Judged.{HasJudged}
use Rattle.casdisk_texts.specs.declared.judging.FirstBad.{FirstBad}
use Rattle.history_check.specs.Kept.{CheckerRun}
use Rattle.picture_shapes.specs.Picture.{PictureState, picture_after, picture_of, picture_step}
use Rattle.picture_shapes.specs.declared.picture.Aspect.{Aspect}
use Rattle.picture_svg.specs.Drawn.{HasDrawn, drawn_next, end_of, steps_drawn, steps_to}
use Rattle.picture_svg.specs.declared.drawer.DrawOptions.{DrawOptions}

-- ---- first bad steps

-- where neither is there the first isn't
earlier_none : (a b : Option ℕ) → earlier_or a b ≡ None → a ≡ None
earlier_none None b h = refl
earlier_none (Some k) b h = absurd (let no : ⊥ = cc in no)

-- the end behind a legal history and one more entry
end_here : (a : Option ℕ) (m : Bool) (n : ℕ) → a ≡ None
    → unwrap_or (earlier_or a (cond m None (Some (n + 1)))) (suc n) ≡ n + 1
end_here None true n h = omega arith
end_here None false n h = refl
end_here (Some k) m n h = absurd (let no : ⊥ = cc in no)

-- the end behind a first bad entry stays
end_stays : (a b : Option ℕ) (n m : ℕ) → is_some a ≡ true → unwrap_or a n ≡ unwrap_or (earlier_or a b) m
end_stays None b n m h = absurd (let no : ⊥ = cc in no)
end_stays (Some k) b n m h = refl

-- ---- steps of a picture

-- without a bad step the words don't matter
step_words : (c : ConfigNumbers) (v w : List ℕ) (a b : Option ℕ) (n : ℕ) (e : Entry) (s t : PictureState) → a ≡ None
    → b ≡ None → s ≡ t → picture_step c v a b n e s ≡ picture_step c w a b n e t
step_words c v w None None n e s t p q h = ap (picture_after c n e) h
step_words c v w None (Some k) n e s t p q h = absurd (let no : ⊥ = cc in no)
step_words c v w (Some k) b n e s t p q h = absurd (let no : ⊥ = cc in no)

same_words : (c : ConfigNumbers) (from to : ℕ) (a : Aspect) (v w : List ℕ) (past : Past) → first_bad_of c past ≡ None
    → picture_of c from to a v past ≡ picture_of c from to a w past
same_words c from to a v w [] h = refl
same_words c from to a v w (e ∷ past) h =
    let before = earlier_none (first_bad_of c past) _ h in
    step_words c v w (first_bad_of c past) (first_bad_of c (e ∷ past)) (length past + 1) e
    (picture_of c from to a v past) (picture_of c from to a w past) before h (same_words c from to a v w past before)

-- a step of equals
step_same : (c d : ConfigNumbers) (w : List ℕ) (a b g : Option ℕ) (n m : ℕ) (e : Entry) (s t : PictureState) → c ≡ d
    → a ≡ None → b ≡ g → n ≡ m → s ≡ t → picture_step c w None b n e s ≡ picture_step d w a g m e t
step_same c d w a b g n m e s t i j k l h = cc

-- a step behind a bad one
step_stays : (c : ConfigNumbers) (w : List ℕ) (a b : Option ℕ) (n : ℕ) (e : Entry) (s : PictureState)
    → is_some a ≡ true → picture_step c w a b n e s ≡ s
step_stays c w None b n e s h = absurd (let no : ⊥ = cc in no)
step_stays c w (Some k) b n e s h = refl

-- ---- drawings

few_before : (from to n m : ℕ) → n ≤ m → steps_to from to m ≤ 10000 → steps_to from to n ≤ 10000
few_before from to n m l h = omega arith

not_more : (n : ℕ) → n ≤ 10000 → nat_lt 10000 n ≡ false
not_more n h = grind (arith, nat_tests)

next_few : (c : ConfigNumbers) (from to : ℕ) (w : List ℕ) (b : Option ℕ) (n : ℕ) (e : Entry) (s : PictureState)
    → nat_lt 10000 (steps_to from to n) ≡ false → drawn_next c from to w b n e s ≡ picture_step c w None b n e s
next_few c from to w b n e s h = ap (λ t. cond t s (picture_step c w None b n e s)) h

-- an entry behind none that is bad
pub goes_on : (c : ConfigNumbers) (o : DrawOptions) (past : Past) (e : Entry) (config : ConfigNumbers)
    (x y : CheckerRun) (n m : ℕ) (bad bad' : FirstBad) (s t : PictureState) (w : List ℕ)
    → HasDrawn c o past config x n bad s
    → bad.place ≡ None → HasJudged true c (e ∷ past) y m bad' → t ≡ drawn_next config o.from o.to w bad'.place m e s
    → HasDrawn c o (e ∷ past) config y m bad' t
goes_on c o past e config x y n m bad bad' s t w h none j d =
    record {
      same = h.same;
      judged = j;
      words = w;
      drawn = λ few. all few;
    }
  where
    clean : first_bad_of c past ≡ None
    clean = sym h.judged.first.place ∙ none

    count : m ≡ length past + 1
    count = omega (arith, j.counted)

    ends : end_of c (e ∷ past) ≡ m
    ends = end_here (first_bad_of c past) (may_follow c past e) (length past) clean ∙ sym count

    before : end_of c past ≡ length past
    before = ap (λ a. unwrap_or a (length past)) clean

    all : steps_drawn c o (e ∷ past) ≤ 10000 → t ≡ picture_of c o.from o.to o.aspect w (e ∷ past)
    all few =
        let here : steps_to o.from o.to m ≤ 10000 = subst (λ k. steps_to o.from o.to k ≤ 10000) ends few in
        let low : length past ≤ m = omega (arith, count) in
        let old : steps_to o.from o.to (length past) ≤ 10000 = few_before o.from o.to (length past) m low here in
        let old' : steps_drawn c o past ≤ 10000 =
        subst (λ k. steps_to o.from o.to k ≤ 10000) (sym before) old in
        let drawn : s ≡ picture_of c o.from o.to o.aspect w past =
        h.drawn old' ∙ same_words c o.from o.to o.aspect h.words w past clean in
        d ∙ next_few config o.from o.to w bad'.place m e s (not_more (steps_to o.from o.to m) here)
        ∙ step_same config c w (first_bad_of c past) bad'.place (first_bad_of c (e ∷ past)) m (length past + 1) e s
        (picture_of c o.from o.to o.aspect w past) h.same clean j.first.place count drawn

-- an entry behind one that is bad
pub stays : (c : ConfigNumbers) (o : DrawOptions) (past : Past) (e : Entry) (config : ConfigNumbers) (x y : CheckerRun)
    (n m : ℕ) (bad bad' : FirstBad) (s : PictureState) → HasDrawn c o past config x n bad s
    → is_some bad.place ≡ true → HasJudged true c (e ∷ past) y m bad' → HasDrawn c o (e ∷ past) config y m bad' s
stays c o past e config x y n m bad bad' s h some j =
    record {
      same = h.same;
      judged = j;
      words = h.words;
      drawn = λ few. all few;
    }
  where
    ended : is_some (first_bad_of c past) ≡ true
    ended = ap is_some (sym h.judged.first.place) ∙ some

    all : steps_drawn c o (e ∷ past) ≤ 10000 → s ≡ picture_of c o.from o.to o.aspect h.words (e ∷ past)
    all few =
        let same : end_of c past ≡ end_of c (e ∷ past) =
        end_stays (first_bad_of c past) _ (length past) (length (e ∷ past)) ended in
        let old : steps_drawn c o past ≤ 10000 = subst (λ k. steps_to o.from o.to k ≤ 10000) (sym same) few in
        h.drawn old
        ∙ sym (step_stays c h.words (first_bad_of c past) (first_bad_of c (e ∷ past)) (length past + 1) e
        (picture_of c o.from o.to o.aspect h.words past) ended)
