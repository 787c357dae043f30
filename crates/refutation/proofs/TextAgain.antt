-- The text of a refutation is read as that refutation.
use Rattle.std.proofs.Common.{List, None, Some, [], ap, append-nil, append_assoc, arith, length, map}
use Rattle.std.proofs.Common.{nat_lt, refl, slice_get, sym, true, ℕ, ◌+◌, ◌++◌, ◌-◌, ◌<◌, ◌^◌, ◌∙◌, ◌∷◌, ◌≡◌}
use Rattle.std.specs.Prelude.{Ok, codes, decimal, if◌then◌else◌}
use Rattle.std.specs.List.{AllByRecursion, join_with_byte, slice_split}
use Rattle.std.proofs.Math.Dec.{eqb}
use Rattle.std.proofs.lemmas.Bool.{and_parts}
use Rattle.std.proofs.lemmas.List.{length-append}
use Rattle.line_text.proofs.Feeds.{append_feedless, decimal_feedless}
use Rattle.plain_lemmas.proofs.Lists.{at_last}
use Rattle.line_text.specs.Lines.{with_feeds}
use Rattle.line_text.specs.Number.{number_in}
use Rattle.line_text.specs.Words.{Without}
use Rattle.line_text.proofs.NumberLaws.{decimal_spaceless, number_some}
use Rattle.line_text.proofs.WordLaws.{words_again}
use Rattle.refutation.specs.Refutations.{IsRefutation, Refutation, is_before, is_behind, last_of}
use Rattle.refutation.specs.Refutations.{rises, with_block, with_command}
use Rattle.refutation.specs.Texts.{and_block, and_command, and_line, and_words, block_line, command_line, count_line}
use Rattle.refutation.specs.Texts.{count_of, read_all, read_counted, read_pieces, refutation_in, refutation_lines}
use Rattle.refutation.specs.Texts.{refutation_text, then_read, words_of}

-- ---- no line feed in a line

count_feedless : (n : ℕ) → n < 2 ^ 64 → Without 10 (count_line n)
count_feedless n l =
    append_feedless (codes "lines ") (decimal n) (refl, (refl, (refl, (refl, (refl, (refl, tt))))))
    (decimal_feedless n l)

block_feedless : (n : ℕ) → n < 2 ^ 64 → Without 10 (block_line n)
block_feedless n l =
    append_feedless (codes "block ") (decimal n) (refl, (refl, (refl, (refl, (refl, (refl, tt))))))
    (decimal_feedless n l)

command_feedless : (m : ℕ × ℕ) → m.0 < 2 ^ 16 → m.1 < 2 ^ 64 → Without 10 (command_line m)
command_feedless m k l =
    append_feedless (codes "command ") (decimal m.0 ++ 32 ∷ decimal m.1)
    (refl, (refl, (refl, (refl, (refl, (refl, (refl, (refl, tt))))))))
    (append_feedless (decimal m.0) (32 ∷ decimal m.1) (decimal_feedless m.0 (omega arith))
    (refl, decimal_feedless m.1 l))

-- ---- a text in pieces

-- lines with nothing behind them, joined
feeds_join : (lines : List (List ℕ)) → join_with_byte 10 (lines ++ [] ∷ []) ≡ with_feeds lines
unfolding with_feeds
feeds_join [] = refl
feeds_join (x ∷ []) = refl
feeds_join (x ∷ y ∷ lines) = ap (λ l. x ++ (10 ∷ l)) (feeds_join (y ∷ lines))

all_append : {A : Type 0} (P : A → Type 0) (xs ys : List A) → AllByRecursion P xs → AllByRecursion P ys
    → AllByRecursion P (xs ++ ys)
all_append P [] ys p q = q
all_append P (x ∷ xs) ys p q = (p.0, all_append P xs ys p.1 q)

blocks_feedless : (bs : List ℕ) → AllByRecursion (λ b. b < 2 ^ 64) bs → AllByRecursion (Without 10) (map block_line bs)
blocks_feedless [] h = tt
blocks_feedless (b ∷ bs) h = (block_feedless b h.0, blocks_feedless bs h.1)

commands_feedless : (ms : List (ℕ × ℕ)) → AllByRecursion (λ m. (m.0 < 2 ^ 16) × (m.1 < 2 ^ 64)) ms
    → AllByRecursion (Without 10) (map command_line ms)
commands_feedless [] h = tt
commands_feedless (m ∷ ms) h = (command_feedless m h.0.0 h.0.1, commands_feedless ms h.1)

-- all pieces behind the head
abbrev rest_pieces : Refutation → List (List ℕ)
rest_pieces r = count_line r.lines ∷ (map block_line r.blocks ++ (map command_line r.commands ++ [] ∷ []))

pieces_are : (r : Refutation) → IsRefutation r
    → slice_split (λ b. eqb b 10) (refutation_text r) ≡ codes "refutation" ∷ rest_pieces r
pieces_are r is =
    let assoc : refutation_lines r ++ [] ∷ [] ≡ codes "refutation" ∷ rest_pieces r =
    ap (λ l. codes "refutation" ∷ count_line r.lines ∷ l)
    (append_assoc (map block_line r.blocks) (map command_line r.commands) ([] ∷ [])) in
    ap (slice_split (λ b. eqb b 10)) (sym (feeds_join (refutation_lines r)) ∙ ap (join_with_byte 10) assoc)
    ∙ words_again 10 (codes "refutation") (rest_pieces r)
    (refl, (refl, (refl, (refl, (refl, (refl, (refl, (refl, (refl, (refl, tt)))))))))) (
      count_feedless r.lines is.lines_fit,
      all_append (Without 10) (map block_line r.blocks) (map command_line r.commands ++ [] ∷ [])
          (blocks_feedless r.blocks is.blocks_fit)
          (all_append (Without 10) (map command_line r.commands) ([] ∷ [])
          (commands_feedless r.commands is.commands_fit)
          (tt, tt)),
    )

-- ---- one line

count_words : (n : ℕ) → n < 2 ^ 64 → count_of (words_of (count_line n)) ≡ Some n
count_words n l =
    ap count_of (words_again 32 (codes "lines") (decimal n ∷ []) (refl, (refl, (refl, (refl, (refl, tt)))))
    (decimal_spaceless n l, tt))
    ∙ number_some 64 n (decimal n) l l refl

last_is : {A : Type 0} (xs : List A) (x : A) → last_of (xs ++ x ∷ []) ≡ Some x
last_is xs x =
    let long : length (xs ++ x ∷ []) - 1 ≡ length xs = omega (arith, length-append xs (x ∷ [])) in
    ap (slice_get (xs ++ x ∷ [])) long ∙ at_last xs x

block_again : (k : ℕ) (bs : List ℕ) (b : ℕ) → b < 2 ^ 64 → is_behind nat_lt (last_of bs) b ≡ true
    → and_line (record { lines = k; blocks = bs; commands = [] }) (block_line b)
    ≡ Some (record { lines = k; blocks = bs ++ b ∷ []; commands = [] })
block_again k bs b l h =
    let s : Refutation = record { lines = k; blocks = bs; commands = [] } in
    ap (and_words s) (words_again 32 (codes "block") (decimal b ∷ []) (refl, (refl, (refl, (refl, (refl, tt)))))
    (decimal_spaceless b l, tt))
    ∙ ap (and_block s) (number_some 64 b (decimal b) l l refl)
    ∙ ap (λ t. if t then Some (with_block s b) else None) h

command_again : (k : ℕ) (bs : List ℕ) (ms : List (ℕ × ℕ)) (m : ℕ × ℕ) → m.0 < 2 ^ 16 → m.1 < 2 ^ 64
    → is_behind is_before (last_of ms) m ≡ true
    → and_line (record { lines = k; blocks = bs; commands = ms }) (command_line m)
    ≡ Some (record { lines = k; blocks = bs; commands = ms ++ m ∷ [] })
command_again k bs ms m p l h =
    let s : Refutation = record { lines = k; blocks = bs; commands = ms } in
    let low : m.0 < 2 ^ 64 = omega arith in
    ap (and_words s) (words_again 32 (codes "command") (decimal m.0 ∷ decimal m.1 ∷ [])
    (refl, (refl, (refl, (refl, (refl, (refl, (refl, tt)))))))
    (decimal_spaceless m.0 low, (decimal_spaceless m.1 l, tt)))
    ∙ ap (λ o. and_command s o (number_in 64 (decimal m.1))) (number_some 16 m.0 (decimal m.0) p low refl)
    ∙ ap (and_command s (Some m.0)) (number_some 64 m.1 (decimal m.1) l l refl)
    ∙ ap (λ t. if t then Some (with_command s m) else None) h

-- ---- all lines

-- something stands behind a line
step : (n : ℕ) (s : Refutation) (line : List ℕ) (pieces : List (List ℕ)) → (pieces ≡ [] → ⊥)
    → read_pieces n s (line ∷ pieces) ≡ then_read n (λ t. read_pieces (n + 1) t pieces) (and_line s line)
step n s line [] some = absurd (some refl)
step n s line (next ∷ pieces) some = refl

not_none : (xs : List (List ℕ)) (y : List ℕ) → xs ++ y ∷ [] ≡ [] → ⊥
not_none [] y e = cc
not_none (x ∷ xs) y e = cc

not_none_behind : (xs ys : List (List ℕ)) → (ys ≡ [] → ⊥) → xs ++ ys ≡ [] → ⊥
not_none_behind [] ys h e = h e
not_none_behind (x ∷ xs) ys h e = cc

commands_again : (ms : List (ℕ × ℕ)) (n k : ℕ) (bs : List ℕ) (done : List (ℕ × ℕ))
    → rises is_before (last_of done) ms ≡ true → AllByRecursion (λ m. (m.0 < 2 ^ 16) × (m.1 < 2 ^ 64)) ms
    → read_pieces n (record { lines = k; blocks = bs; commands = done }) (map command_line ms ++ [] ∷ [])
    ≡ Ok (record { lines = k; blocks = bs; commands = done ++ ms })
commands_again [] n k bs done h f =
    ap (λ l. Ok (record { lines = k; blocks = bs; commands = l })) (sym (append-nil done))
commands_again (m ∷ ms) n k bs done h f =
    step n (record { lines = k; blocks = bs; commands = done }) (command_line m) (map command_line ms ++ [] ∷ [])
    (not_none (map command_line ms) [])
    ∙ ap (then_read n (λ t. read_pieces (n + 1) t (map command_line ms ++ [] ∷ [])))
    (command_again k bs done m f.0.0 f.0.1 (and_parts _ _ h).0)
    ∙ commands_again ms (n + 1) k bs (done ++ m ∷ [])
    (ap (λ o. rises is_before o ms) (last_is done m) ∙ (and_parts _ _ h).1) f.1
    ∙ ap (λ l. Ok (record { lines = k; blocks = bs; commands = l })) (append_assoc done (m ∷ []) ms)

blocks_again : (bs : List ℕ) (n k : ℕ) (done : List ℕ) (ms : List (ℕ × ℕ)) → rises nat_lt (last_of done) bs ≡ true
    → AllByRecursion (λ b. b < 2 ^ 64) bs → rises is_before None ms ≡ true
    → AllByRecursion (λ m. (m.0 < 2 ^ 16) × (m.1 < 2 ^ 64)) ms
    → read_pieces n (record { lines = k; blocks = done; commands = [] })
    (map block_line bs ++ (map command_line ms ++ [] ∷ []))
    ≡ Ok (record { lines = k; blocks = done ++ bs; commands = ms })
blocks_again [] n k done ms h f g i =
    commands_again ms n k done [] g i
    ∙ ap (λ l. Ok (record { lines = k; blocks = l; commands = ms })) (sym (append-nil done))
blocks_again (b ∷ bs) n k done ms h f g i =
    step n (record { lines = k; blocks = done; commands = [] }) (block_line b)
    (map block_line bs ++ (map command_line ms ++ [] ∷ []))
    (not_none_behind (map block_line bs) _ (not_none (map command_line ms) []))
    ∙ ap (then_read n (λ t. read_pieces (n + 1) t (map block_line bs ++ (map command_line ms ++ [] ∷ []))))
    (block_again k done b f.0 (and_parts _ _ h).0)
    ∙ blocks_again bs (n + 1) k (done ++ b ∷ []) ms
    (ap (λ o. rises nat_lt o bs) (last_is done b) ∙ (and_parts _ _ h).1) f.1 g i
    ∙ ap (λ l. Ok (record { lines = k; blocks = l; commands = ms })) (append_assoc done (b ∷ []) bs)

counted : (count : List ℕ) (pieces : List (List ℕ)) → (pieces ≡ [] → ⊥)
    → read_all (codes "refutation" ∷ count ∷ pieces) ≡ read_counted (count_of (words_of count)) pieces
counted count [] some = absurd (some refl)
counted count (next ∷ pieces) some = refl

pub read_back : (r : Refutation) → IsRefutation r → refutation_in (refutation_text r) ≡ Ok r
read_back r is =
    ap read_all (pieces_are r is)
    ∙ counted (count_line r.lines) (map block_line r.blocks ++ (map command_line r.commands ++ [] ∷ []))
    (not_none_behind (map block_line r.blocks) _ (not_none (map command_line r.commands) []))
    ∙ ap (λ o. read_counted o (map block_line r.blocks ++ (map command_line r.commands ++ [] ∷ [])))
    (count_words r.lines is.lines_fit)
    ∙ blocks_again r.blocks 3 r.lines [] r.commands is.blocks_rise is.blocks_fit is.commands_rise is.commands_fit
