-- A line that says an option is its line.
use Rattle.std.proofs.Common.{◌≡◌, ℕ, Bool, true, false, cond, List, [], ◌∷◌, ◌++◌, Option, Some, None, length, drop}
use Rattle.std.proofs.Common.{take}
use Rattle.std.proofs.Common.{refl, sym, ap, ◌∙◌, ◌||◌, ◌==◌, arith, ne_eqb, not, append-nil}
use Rattle.std.specs.Prelude.{codes, nat_le, option_map, slice_range}
use Rattle.std.specs.Str.{bytes_eq}
use Rattle.std.proofs.lemmas.Bool.{and_parts, not-false, or_parts}
use Rattle.std.proofs.lemmas.List.{take-append-drop}
use Rattle.plain_lemmas.proofs.Lists.{bytes_eq_true}
use Rattle.trace.specs.declared.options.IgnoredFields.{IgnoredFields}
use Rattle.trace.specs.OptionLines.{begins, ignored_in, option_in, option_line, rest_behind, word_if}
use Rattle.trace.specs.declared.option_lines.TraceOption.{TraceOption}
use Rattle.trace.specs.declared.option_lines.TraceOption.TheVariants.{ContentsUnknown, Ignore, StatusesAny}

front_of : (text : List ℕ) (n : ℕ) → slice_range text 0 n ≡ take n text
front_of text n = ap (λ k. take k text) (omega arith)

-- a word that a text begins with, and what stands behind it
again : (word text : List ℕ) → word_if (begins word text) word ++ rest_behind word text ≡ text
again word text = by (begins word text) refl
  where
    by : (b : Bool) → begins word text ≡ b
        → word_if b word ++ cond b (drop (length word) text) text ≡ text
    by true e =
        let front : slice_range text 0 (length word) ≡ word =
        bytes_eq_true (slice_range text 0 (length word)) word
        (and_parts (nat_le (length word) (length text)) (bytes_eq (slice_range text 0 (length word)) word) e).1 in
        ap (λ (l : List ℕ). l ++ drop (length word) text) (sym front) ∙ ap (λ (l : List ℕ). l ++ drop (length word)
        text) (front_of text (length word)) ∙ take-append-drop (length word) text
    by false e = refl

blank : (xs : List ℕ) → (length xs == 0) ≡ true → xs ≡ []
blank [] e = refl
blank (x ∷ xs) e =
    absurd (let w : false ≡ true = sym (ne_eqb (length (x ∷ xs)) 0 (λ z. omega (arith, z))) ∙ e in cc)

-- the fields of a text
abbrev fields_of : List ℕ → IgnoredFields
fields_of text =
    let more = rest_behind (codes " DNR") text in
    let crd = rest_behind (codes " MORE") more in
    let dw0 = rest_behind (codes " CRD") crd in
    let dw1 = rest_behind (codes " DW0") dw0 in
    let sqhd = rest_behind (codes " DW1") dw1 in
    record {
      dnr = begins (codes " DNR") text;
      more = begins (codes " MORE") more;
      crd = begins (codes " CRD") crd;
      dw0 = begins (codes " DW0") dw0;
      dw1 = begins (codes " DW1") dw1;
      sqhd = begins (codes " SQHD") sqhd;
    }

-- their words
abbrev words_of : IgnoredFields → List ℕ
words_of i =
    word_if i.dnr (codes " DNR") ++ (word_if i.more (codes " MORE")
    ++ (word_if i.crd (codes " CRD") ++ (word_if i.dw0 (codes " DW0") ++ (word_if i.dw1 (codes " DW1")
    ++ word_if i.sqhd (codes " SQHD")))))

-- where nothing stands behind them, they are the text
words_again : (text : List ℕ)
    → rest_behind (codes " SQHD") (rest_behind (codes " DW1") (rest_behind (codes " DW0") (rest_behind (codes " CRD")
    (rest_behind (codes " MORE") (rest_behind (codes " DNR") text))))) ≡ []
    → words_of (fields_of text) ≡ text
words_again text none =
    let more = rest_behind (codes " DNR") text in
    let crd = rest_behind (codes " MORE") more in
    let dw0 = rest_behind (codes " CRD") crd in
    let dw1 = rest_behind (codes " DW0") dw0 in
    let sqhd = rest_behind (codes " DW1") dw1 in
    let last : word_if (begins (codes " SQHD") sqhd) (codes " SQHD") ≡ sqhd =
    sym (append-nil (word_if (begins (codes " SQHD") sqhd) (codes " SQHD")))
    ∙ ap (λ (l : List ℕ). word_if (begins (codes " SQHD") sqhd) (codes " SQHD") ++ l) (sym none)
    ∙ again (codes " SQHD") sqhd in
    let e5 = ap (λ (l : List ℕ). word_if (begins (codes " DW1") dw1) (codes " DW1") ++ l) last ∙ again (codes " DW1")
    dw1 in
    let e4 = ap (λ (l : List ℕ). word_if (begins (codes " DW0") dw0) (codes " DW0") ++ l) e5 ∙ again (codes " DW0")
    dw0 in
    let e3 = ap (λ (l : List ℕ). word_if (begins (codes " CRD") crd) (codes " CRD") ++ l) e4 ∙ again (codes " CRD")
    crd in
    let e2 = ap (λ (l : List ℕ). word_if (begins (codes " MORE") more) (codes " MORE") ++ l) e3
    ∙ again (codes " MORE") more in
    ap (λ (l : List ℕ). word_if (begins (codes " DNR") text) (codes " DNR") ++ l) e2 ∙ again (codes " DNR") text

fields_again : (text : List ℕ) (i : IgnoredFields) → ignored_in text ≡ Some i → words_of i ≡ text
unfolding ignored_in
fields_again text i h =
    let end = rest_behind (codes " SQHD") (rest_behind (codes " DW1") (rest_behind (codes " DW0")
    (rest_behind (codes " CRD") (rest_behind (codes " MORE") (rest_behind (codes " DNR") text))))) in
    by ((length text == 0) || not (length end == 0)) refl h
  where
    end : List ℕ
    end = rest_behind (codes " SQHD") (rest_behind (codes " DW1") (rest_behind (codes " DW0")
        (rest_behind (codes " CRD") (rest_behind (codes " MORE") (rest_behind (codes " DNR") text)))))

    that : (j k : IgnoredFields) → Some j ≡ Some k → j ≡ k
    that j k e = cc

    by : (b : Bool) → ((length text == 0) || not (length end == 0)) ≡ b → cond b None (Some (fields_of text)) ≡ Some i
        → words_of i ≡ text
    by true e g = absurd (let w : None ≡ Some i = g in cc)
    by false e g =
        let none = blank end (not-false (length end == 0) (or_parts (length text == 0) (not (length end == 0)) e).1) in
        ap words_of (sym (that (fields_of text) i g)) ∙ words_again text none

pub written_back : (line : List ℕ) (o : TraceOption) → option_in line ≡ Some o → option_line o ≡ line
unfolding option_in
written_back line o h = first (bytes_eq line (codes "observe contents unknown")) refl h
  where
    that : (p q : TraceOption) → Some p ≡ Some q → p ≡ q
    that p q e = cc

    named : (f : Option IgnoredFields) → ignored_in (rest_behind (codes "observe ignore") line) ≡ f
        → begins (codes "observe ignore") line ≡ true
        → option_map Ignore f ≡ Some o → option_line o ≡ line
    named None e b g = absurd (let w : None ≡ Some o = g in cc)
    named (Some i) e b g =
        let whole : codes "observe ignore" ++ rest_behind (codes "observe ignore") line ≡ line =
        ap (λ t. word_if t (codes "observe ignore") ++ rest_behind (codes "observe ignore") line) (sym b)
        ∙ again (codes "observe ignore") line in
        ap option_line (sym (that (Ignore i) o g))
        ∙ ap (λ (l : List ℕ). codes "observe ignore" ++ l) (fields_again (rest_behind (codes "observe ignore") line) i
        e) ∙ whole

    third : (b : Bool) → begins (codes "observe ignore") line ≡ b
        → cond b (option_map Ignore (ignored_in (rest_behind (codes "observe ignore") line))) None ≡ Some o
        → option_line o ≡ line
    third true e g = named (ignored_in (rest_behind (codes "observe ignore") line)) refl e g
    third false e g = absurd (let w : None ≡ Some o = g in cc)

    second : (b : Bool) → bytes_eq line (codes "observe statuses any") ≡ b
        → cond b (Some StatusesAny)
        (cond (begins (codes "observe ignore") line)
        (option_map Ignore (ignored_in (rest_behind (codes "observe ignore") line))) None) ≡ Some o
        → option_line o ≡ line
    second true e g =
        ap option_line (sym (that StatusesAny o g)) ∙ sym (bytes_eq_true line (codes "observe statuses any") e)
    second false e g = third (begins (codes "observe ignore") line) refl g

    first : (b : Bool) → bytes_eq line (codes "observe contents unknown") ≡ b
        → cond b (Some ContentsUnknown) (cond (bytes_eq line (codes "observe statuses any")) (Some StatusesAny)
        (cond (begins (codes "observe ignore") line)
        (option_map Ignore (ignored_in (rest_behind (codes "observe ignore") line))) None)) ≡ Some o
        → option_line o ≡ line
    first true e g =
        ap option_line (sym (that ContentsUnknown o g)) ∙ sym (bytes_eq_true line (codes "observe contents unknown") e)
    first false e g = second (bytes_eq line (codes "observe statuses any")) refl g
