-- What is read of a text has that text.
use Rattle.std.proofs.Common.{Bool, List, None, Option, Some, [], ap, append-nil, append_assoc, eqb-true, false}
use Rattle.std.proofs.Common.{if◌then◌else◌, length, map, refl, subst, sym, true, ℕ, ◌+◌, ◌++◌, ◌==◌, ◌∙◌, ◌∷◌, ◌≡◌}
use Rattle.std.specs.Prelude.{Err, Ok, Result, codes, decimal}
use Rattle.std.specs.List.{join_with_byte, slice_split}
use Rattle.std.specs.Str.{bytes_eq}
use Rattle.std.proofs.lemmas.Bool.{and_parts}
use Rattle.std.proofs.lemmas.List.{map-append, nil_from_length}
use Rattle.std.proofs.lemmas.List.Splits.{join_with_byte-slice_split}
use Rattle.line_text.proofs.Feeds.{feeds_append, feeds_none, feeds_one}
use Rattle.plain_lemmas.proofs.Lists.{bytes_eq_true}
use Rattle.line_text.specs.Lines.{with_feeds}
use Rattle.line_text.specs.Number.{number_in}
use Rattle.line_text.proofs.NumberLaws.{number_is}
use Rattle.refutation.specs.Refutations.{Refutation, may_add_block, may_add_command, of_lines, with_block, with_command}
use Rattle.refutation.specs.Texts.{and_block, and_command, and_line, and_words, block_line, command_line, count_line}
use Rattle.refutation.specs.Texts.{count_of, read_all, read_counted, read_pieces, refutation_in, refutation_text}
use Rattle.refutation.specs.Texts.{slice_text, then_read, words_of}
use Rattle.refutation.proofs.Feeds.{text_is}

-- the words of a line join to it
words_join : (line : List ℕ) → join_with_byte 32 (words_of line) ≡ line
words_join line = join_with_byte-slice_split 32 line

-- ---- one line

-- what a line adds
record Adds (s r : Refutation) (line : List ℕ) : Type 0 where
  lines : s.lines ≡ r.lines
  text : slice_text r.blocks r.commands ≡ slice_text s.blocks s.commands ++ (line ++ 10 ∷ [])

adds_block : (s r : Refutation) (b : ℕ) → (if may_add_block s b then Some (with_block s b) else None) ≡ Some r
    → Adds s r (block_line b)
adds_block s r b h = by (may_add_block s b) refl h
  where
    by : (t : Bool) → may_add_block s b ≡ t → (if t then Some (with_block s b) else None) ≡ Some r
        → Adds s r (block_line b)
    by true e g =
        let same : with_block s b ≡ r = cc in
        let none : s.commands ≡ [] = nil_from_length s.commands (eqb-true _ _ (and_parts _ _ e).0) in
        let no_text : with_feeds (map command_line s.commands) ≡ [] =
        ap (λ m. with_feeds (map command_line m)) none ∙ feeds_none in
        subst (λ t. Adds s t (block_line b)) same (record {
          lines = refl;
          text = ap (λ t. with_feeds (map block_line (s.blocks ++ b ∷ [])) ++ t) no_text
              ∙ append-nil (with_feeds (map block_line (s.blocks ++ b ∷ [])))
              ∙ ap with_feeds (map-append block_line s.blocks (b ∷ []))
              ∙ feeds_append (map block_line s.blocks) (block_line b ∷ [])
              ∙ ap (λ t. with_feeds (map block_line s.blocks) ++ t) (feeds_one (block_line b))
              ∙ ap (λ t. t ++ (block_line b ++ 10 ∷ [])) (sym (append-nil (with_feeds (map block_line s.blocks))))
              ∙ ap (λ t. (with_feeds (map block_line s.blocks) ++ t) ++ (block_line b ++ 10 ∷ [])) (sym no_text);
        })
    by false e g = absurd cc

adds_command : (s r : Refutation) (m : ℕ × ℕ) → (if may_add_command s m then Some (with_command s m) else None) ≡ Some r
    → Adds s r (command_line m)
adds_command s r m h = by (may_add_command s m) h
  where
    by : (t : Bool) → (if t then Some (with_command s m) else None) ≡ Some r → Adds s r (command_line m)
    by true g =
        let same : with_command s m ≡ r = cc in
        let front = with_feeds (map block_line s.blocks) in
        subst (λ t. Adds s t (command_line m)) same (record {
          lines = refl;
          text = ap (λ t. front ++ with_feeds t) (map-append command_line s.commands (m ∷ []))
              ∙ ap (λ t. front ++ t) (feeds_append (map command_line s.commands) (command_line m ∷ [])
              ∙ ap (λ t. with_feeds (map command_line s.commands) ++ t) (feeds_one (command_line m)))
              ∙ sym (append_assoc front (with_feeds (map command_line s.commands)) (command_line m ++ 10 ∷ []));
        })
    by false g = absurd cc

words_block : (s r : Refutation) (kind number : List ℕ) → and_words s (kind ∷ number ∷ []) ≡ Some r
    → Adds s r (join_with_byte 32 (kind ∷ number ∷ []))
words_block s r kind number h = by (bytes_eq kind (codes "block")) refl h
  where
    found : (o : Option ℕ) → number_in 64 number ≡ o → bytes_eq kind (codes "block") ≡ true → and_block s o ≡ Some r
        → Adds s r (join_with_byte 32 (kind ∷ number ∷ []))
    found None e k g = absurd cc
    found (Some b) e k g =
        let same : block_line b ≡ join_with_byte 32 (kind ∷ number ∷ []) =
        ap (λ w. join_with_byte 32 (w ∷ decimal b ∷ [])) (sym (bytes_eq_true kind (codes "block") k))
        ∙ ap (λ w. join_with_byte 32 (kind ∷ w ∷ [])) (sym (number_is 64 b number e).0) in
        subst (Adds s r) same (adds_block s r b g)

    by : (t : Bool) → bytes_eq kind (codes "block") ≡ t
        → (if t then and_block s (number_in 64 number) else None) ≡ Some r
        → Adds s r (join_with_byte 32 (kind ∷ number ∷ []))
    by true e g = found (number_in 64 number) refl e g
    by false e g = absurd cc

words_command : (s r : Refutation) (kind queue number : List ℕ) → and_words s (kind ∷ queue ∷ number ∷ []) ≡ Some r
    → Adds s r (join_with_byte 32 (kind ∷ queue ∷ number ∷ []))
words_command s r kind queue number h = by (bytes_eq kind (codes "command")) refl h
  where
    found : (o p : Option ℕ) → number_in 16 queue ≡ o → number_in 64 number ≡ p → bytes_eq kind (codes "command") ≡ true
        → and_command s o p ≡ Some r → Adds s r (join_with_byte 32 (kind ∷ queue ∷ number ∷ []))
    found None p e f k g = absurd cc
    found (Some q) None e f k g = absurd cc
    found (Some q) (Some j) e f k g =
        let same : command_line (q, j) ≡ join_with_byte 32 (kind ∷ queue ∷ number ∷ []) =
        ap (λ w. join_with_byte 32 (w ∷ decimal q ∷ decimal j ∷ [])) (sym (bytes_eq_true kind (codes "command") k))
        ∙ ap (λ w. join_with_byte 32 (kind ∷ w ∷ decimal j ∷ [])) (sym (number_is 16 q queue e).0)
        ∙ ap (λ w. join_with_byte 32 (kind ∷ queue ∷ w ∷ [])) (sym (number_is 64 j number f).0) in
        subst (Adds s r) same (adds_command s r (q, j) g)

    by : (t : Bool) → bytes_eq kind (codes "command") ≡ t
        → (if t then and_command s (number_in 16 queue) (number_in 64 number) else None) ≡ Some r
        → Adds s r (join_with_byte 32 (kind ∷ queue ∷ number ∷ []))
    by true e g = found (number_in 16 queue) (number_in 64 number) refl refl e g
    by false e g = absurd cc

words_add : (s r : Refutation) (words : List (List ℕ)) → and_words s words ≡ Some r → Adds s r (join_with_byte 32 words)
words_add s r [] h = absurd cc
words_add s r (kind ∷ []) h = absurd cc
words_add s r (kind ∷ number ∷ []) h = words_block s r kind number h
words_add s r (kind ∷ queue ∷ number ∷ []) h = words_command s r kind queue number h
words_add s r (kind ∷ queue ∷ number ∷ more ∷ words) h = absurd cc

line_adds : (s r : Refutation) (line : List ℕ) → and_line s line ≡ Some r → Adds s r line
line_adds s r line h = subst (Adds s r) (words_join line) (words_add s r (words_of line) h)

-- ---- all lines behind the first two

record Rest (s r : Refutation) (pieces : List (List ℕ)) : Type 0 where
  lines : s.lines ≡ r.lines
  text : slice_text s.blocks s.commands ++ join_with_byte 10 pieces ≡ slice_text r.blocks r.commands

rest_is : (n : ℕ) (s r : Refutation) (pieces : List (List ℕ)) → read_pieces n s pieces ≡ Ok r → Rest s r pieces
rest_is n s r [] h = absurd cc
rest_is n s r (last ∷ []) h = by (length last == 0) refl h
  where
    by : (t : Bool) → (length last == 0) ≡ t → (if t then Ok s else Err n) ≡ Ok r → Rest s r (last ∷ [])
    by true e g =
        let same : s ≡ r = cc in
        subst (λ t. Rest s t (last ∷ [])) same (record {
          lines = refl;
          text = ap (λ l. slice_text s.blocks s.commands ++ l) (nil_from_length last (eqb-true _ _ e))
              ∙ append-nil (slice_text s.blocks s.commands);
        })
    by false e g = absurd cc
rest_is n s r (line ∷ next ∷ pieces) h =
    by (and_line s line) refl h (λ t. rest_is (n + 1) t r (next ∷ pieces))
  where
    by : (o : Option Refutation) → and_line s line ≡ o
        → then_read n (λ t. read_pieces (n + 1) t (next ∷ pieces)) o ≡ Ok r
        → ((t : Refutation) → read_pieces (n + 1) t (next ∷ pieces) ≡ Ok r → Rest t r (next ∷ pieces))
        → Rest s r (line ∷ next ∷ pieces)
    by None e g f = absurd cc
    by (Some t) e g f =
        let one = line_adds s t line e in
        let others = f t g in
        record {
          lines = one.lines ∙ others.lines;
          text = ap (λ l. slice_text s.blocks s.commands ++ l)
              (sym (append_assoc line (10 ∷ []) (join_with_byte 10 (next ∷ pieces))))
              ∙ sym (append_assoc (slice_text s.blocks s.commands) (line ++ 10 ∷ [])
              (join_with_byte 10 (next ∷ pieces)))
              ∙ ap (λ l. l ++ join_with_byte 10 (next ∷ pieces)) (sym one.text)
              ∙ others.text;
        }

-- ---- all lines

count_is : (words : List (List ℕ)) (k : ℕ) → count_of words ≡ Some k → join_with_byte 32 words ≡ count_line k
count_is [] k h = absurd cc
count_is (kind ∷ []) k h = absurd cc
count_is (kind ∷ number ∷ []) k h = by (bytes_eq kind (codes "lines")) refl h
  where
    by : (t : Bool) → bytes_eq kind (codes "lines") ≡ t → (if t then number_in 64 number else None) ≡ Some k
        → join_with_byte 32 (kind ∷ number ∷ []) ≡ count_line k
    by true e g =
        ap (λ w. join_with_byte 32 (w ∷ number ∷ [])) (bytes_eq_true kind (codes "lines") e)
        ∙ ap (λ w. join_with_byte 32 (codes "lines" ∷ w ∷ [])) (number_is 64 k number g).0
    by false e g = absurd cc
count_is (kind ∷ number ∷ more ∷ words) k h = absurd cc

counted_is : (count : List ℕ) (next : List ℕ) (pieces : List (List ℕ)) (r : Refutation)
    → read_counted (count_of (words_of count)) (next ∷ pieces) ≡ Ok r
    → join_with_byte 10 (codes "refutation" ∷ count ∷ next ∷ pieces) ≡ refutation_text r
counted_is count next pieces r h = by (count_of (words_of count)) refl h
  where
    by : (o : Option ℕ) → count_of (words_of count) ≡ o → read_counted o (next ∷ pieces) ≡ Ok r
        → join_with_byte 10 (codes "refutation" ∷ count ∷ next ∷ pieces) ≡ refutation_text r
    by None e g = absurd cc
    by (Some k) e g =
        let rest = rest_is 3 (of_lines k) r (next ∷ pieces) g in
        let line : count ≡ count_line r.lines =
        sym (words_join count) ∙ count_is (words_of count) k e ∙ ap count_line rest.lines in
        let tail : join_with_byte 10 (next ∷ pieces) ≡ slice_text r.blocks r.commands =
        ap (λ l. (l ++ l) ++ join_with_byte 10 (next ∷ pieces)) (sym feeds_none) ∙ rest.text in
        ap (λ l. (codes "refutation" ++ 10 ∷ []) ++ (l ++ (10 ∷ join_with_byte 10 (next ∷ pieces)))) line
        ∙ ap (λ l. (codes "refutation" ++ 10 ∷ []) ++ (count_line r.lines ++ (10 ∷ l))) tail
        ∙ ap (λ l. (codes "refutation" ++ 10 ∷ []) ++ l)
        (sym (append_assoc (count_line r.lines) (10 ∷ []) (slice_text r.blocks r.commands)))
        ∙ sym (text_is r)

all_is : (pieces : List (List ℕ)) (r : Refutation) → read_all pieces ≡ Ok r
    → join_with_byte 10 pieces ≡ refutation_text r
all_is [] r h = absurd cc
all_is (head ∷ []) r h = absurd cc
all_is (head ∷ count ∷ []) r h = by (bytes_eq head (codes "refutation")) h
  where
    by : (t : Bool) → if◌then◌else◌ {A = Result Refutation ℕ} t (Err 2) (Err 1) ≡ Ok r
        → join_with_byte 10 (head ∷ count ∷ []) ≡ refutation_text r
    by true g = absurd cc
    by false g = absurd cc
all_is (head ∷ count ∷ next ∷ pieces) r h = by (bytes_eq head (codes "refutation")) refl h
  where
    by : (t : Bool) → bytes_eq head (codes "refutation") ≡ t
        → (if t then read_counted (count_of (words_of count)) (next ∷ pieces) else Err 1) ≡ Ok r
        → join_with_byte 10 (head ∷ count ∷ next ∷ pieces) ≡ refutation_text r
    by true e g =
        ap (λ w. join_with_byte 10 (w ∷ count ∷ next ∷ pieces)) (bytes_eq_true head (codes "refutation") e)
        ∙ counted_is count next pieces r g
    by false e g = absurd cc

pub written_back : (text : List ℕ) (r : Refutation) → refutation_in text ≡ Ok r → refutation_text r ≡ text
written_back text r h =
    sym (all_is (slice_split (λ b. b == 10) text) r h) ∙ join_with_byte-slice_split 10 text
