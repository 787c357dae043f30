-- What is read has the line that was read.
use Rattle.std.proofs.Common.{◌≡◌, ℕ, Bool, true, false, cond, List, [], ◌∷◌, None, Some, refl, sym, ap, ◌∙◌, arith}
use Rattle.std.specs.Prelude.{Result, Ok, Err, IfOk, codes, decimal}
use Rattle.std.specs.List.{slice_split, join_with_byte}
use Rattle.std.specs.Str.{bytes_eq}
use Rattle.std.proofs.Math.Dec.{eqb}
use Rattle.std.proofs.lemmas.List.Splits.{join_with_byte-slice_split}
use Rattle.plain_lemmas.proofs.Lists.{bytes_eq_true}
use Rattle.hex.specs.Hex.{encode_upper}
use Rattle.line_text.specs.Number.{number_in}
use Rattle.line_text.specs.Digits.{bytes_in, fixed_in}
use Rattle.line_text.specs.Data.{data_in}
use Rattle.line_text.proofs.NumberLaws.{number_is}
use Rattle.line_text.proofs.HexLaws.{bytes_is, fixed_is}
use Rattle.line_text.proofs.DataLaws.{data_is}
use Rattle.nvme_model.specs.declared.entry.Entry.{Entry}
use Rattle.history.specs.declared.line_fault.LineFault.{LineFault}
use Rattle.history.specs.Gives.{GivesRead}
use Rattle.history.specs.StatusWord.{verdict_in}
use Rattle.history.specs.Marks.{mode_in, found_word, found_in, mark_in}
use Rattle.history.specs.BatchWords.{batch_in}
use Rattle.history.specs.Lines.{entry_words, entry_line, publish_in, fetch_in, grant_in, block_in, post_in, reap_in}
use Rattle.history.specs.Lines.{entry_words_in, entry_in}
use Rattle.history.proofs.StatusLaws.{verdict_are}
use Rattle.history.proofs.MarkLaws.{mode_is, found_is, mark_is}
use Rattle.history.proofs.BatchLaws.{batch_are}
use Rattle.history.proofs.EntryParts.{published_parts, fetched_parts, granted_parts, blocked_parts, posted_parts}
use Rattle.history.proofs.EntryParts.{reaped_parts}

-- a Publish
publish_is : (words : List (List ℕ)) (e : Entry) → publish_in words ≡ Some e → codes "publish" ∷ words ≡ entry_words e
unfolding publish_in entry_words
publish_is [] e h = absurd cc
publish_is (q ∷ batch) e h =
    let p = published_parts (number_in 16 q) (batch_in batch) e h in
    ap (λ w. codes "publish" ∷ w ∷ batch) (number_is 16 p.0 q p.2).0 ∙ batch_are p.0 batch p.1 p.3 ∙ ap entry_words p.4

-- a Fetch
fetch_is : (words : List (List ℕ)) (e : Entry) → fetch_in words ≡ Some e → codes "fetch" ∷ words ≡ entry_words e
unfolding fetch_in entry_words
fetch_is [] e h = absurd cc
fetch_is (q ∷ []) e h = absurd cc
fetch_is (q ∷ t ∷ verdict) e h =
    let p = fetched_parts (number_in 16 q) (number_in 64 t) (verdict_in verdict) e h in
    ap (λ w. codes "fetch" ∷ w ∷ t ∷ verdict) (number_is 16 p.0 q p.3).0
    ∙ ap (λ w. codes "fetch" ∷ decimal p.0 ∷ w ∷ verdict) (number_is 64 p.1 t p.4).0
    ∙ ap (λ l. codes "fetch" ∷ decimal p.0 ∷ decimal p.1 ∷ l) (verdict_are verdict p.2 p.5)
    ∙ ap entry_words p.6

-- a Grant
grant_is : (words : List (List ℕ)) (e : Entry) → grant_in words ≡ Some e → codes "grant" ∷ words ≡ entry_words e
unfolding grant_in entry_words
grant_is [] e h = absurd cc
grant_is (t ∷ []) e h = absurd cc
grant_is (t ∷ u ∷ []) e h = absurd cc
grant_is (t ∷ u ∷ s ∷ []) e h = absurd cc
grant_is (t ∷ u ∷ s ∷ n ∷ []) e h = absurd cc
grant_is (t ∷ u ∷ s ∷ n ∷ m ∷ []) e h =
    let p = granted_parts (number_in 64 t) (number_in 64 u) (number_in 64 s) (number_in 16 n) (mode_in m) e h in
    ap (λ w. codes "grant" ∷ w ∷ u ∷ s ∷ n ∷ m ∷ []) (number_is 64 p.0 t p.5).0
    ∙ ap (λ w. codes "grant" ∷ decimal p.0 ∷ w ∷ s ∷ n ∷ m ∷ []) (number_is 64 p.1 u p.6).0
    ∙ ap (λ w. codes "grant" ∷ decimal p.0 ∷ decimal p.1 ∷ w ∷ n ∷ m ∷ []) (number_is 64 p.2 s p.7).0
    ∙ ap (λ w. codes "grant" ∷ decimal p.0 ∷ decimal p.1 ∷ decimal p.2 ∷ w ∷ m ∷ []) (number_is 16 p.3 n p.8).0
    ∙ ap (λ w. codes "grant" ∷ decimal p.0 ∷ decimal p.1 ∷ decimal p.2 ∷ decimal p.3 ∷ w ∷ []) (mode_is m p.4 p.9)
    ∙ ap entry_words p.10
grant_is (t ∷ u ∷ s ∷ n ∷ m ∷ x ∷ words) e h = absurd cc

-- a Block
block_is : (words : List (List ℕ)) (e : Entry) → block_in words ≡ Some e → codes "block" ∷ words ≡ entry_words e
unfolding block_in entry_words
block_is [] e h = absurd cc
block_is (t ∷ []) e h = absurd cc
block_is (t ∷ u ∷ []) e h = absurd cc
block_is (t ∷ u ∷ l ∷ []) e h = absurd cc
block_is (t ∷ u ∷ l ∷ f ∷ []) e h = absurd cc
block_is (t ∷ u ∷ l ∷ f ∷ m ∷ []) e h =
    let p = blocked_parts (number_in 64 t) (number_in 64 u) (number_in 64 l) (found_in f) (mark_in m) e h in
    ap (λ w. codes "block" ∷ w ∷ u ∷ l ∷ f ∷ m ∷ []) (number_is 64 p.0 t p.5).0
    ∙ ap (λ w. codes "block" ∷ decimal p.0 ∷ w ∷ l ∷ f ∷ m ∷ []) (number_is 64 p.1 u p.6).0
    ∙ ap (λ w. codes "block" ∷ decimal p.0 ∷ decimal p.1 ∷ w ∷ f ∷ m ∷ []) (number_is 64 p.2 l p.7).0
    ∙ ap (λ w. codes "block" ∷ decimal p.0 ∷ decimal p.1 ∷ decimal p.2 ∷ w ∷ m ∷ []) (found_is f p.3 p.8)
    ∙ ap (λ w. codes "block" ∷ decimal p.0 ∷ decimal p.1 ∷ decimal p.2 ∷ found_word p.3 ∷ w ∷ []) (mark_is m p.4 p.9)
    ∙ ap entry_words p.10
block_is (t ∷ u ∷ l ∷ f ∷ m ∷ x ∷ words) e h = absurd cc

-- a Post
post_is : (words : List (List ℕ)) (e : Entry) → post_in words ≡ Some e → codes "post" ∷ words ≡ entry_words e
unfolding post_in entry_words
post_is [] e h = absurd cc
post_is (t ∷ []) e h = absurd cc
post_is (t ∷ c ∷ []) e h = absurd cc
post_is (t ∷ c ∷ d ∷ []) e h =
    let p = posted_parts (number_in 64 t) (fixed_in 16 (bytes_in c)) (data_in 512 d) e h in
    ap (λ w. codes "post" ∷ w ∷ c ∷ d ∷ []) (number_is 64 p.0 t p.3).0
    ∙ ap (λ w. codes "post" ∷ decimal p.0 ∷ w ∷ d ∷ []) (bytes_is c p.1 (fixed_is 16 (bytes_in c) p.1 p.4).0)
    ∙ ap (λ w. codes "post" ∷ decimal p.0 ∷ encode_upper p.1 ∷ w ∷ []) (data_is 512 d p.2 (omega arith) p.5)
    ∙ ap entry_words p.6
post_is (t ∷ c ∷ d ∷ x ∷ words) e h = absurd cc

-- a Reap
reap_is : (words : List (List ℕ)) (e : Entry) → reap_in words ≡ Some e → codes "reap" ∷ words ≡ entry_words e
unfolding reap_in entry_words
reap_is [] e h = absurd cc
reap_is (q ∷ []) e h = absurd cc
reap_is (q ∷ c ∷ []) e h =
    let p = reaped_parts (number_in 16 q) (fixed_in 16 (bytes_in c)) e h in
    ap (λ w. codes "reap" ∷ w ∷ c ∷ []) (number_is 16 p.0 q p.2).0
    ∙ ap (λ w. codes "reap" ∷ decimal p.0 ∷ w ∷ []) (bytes_is c p.1 (fixed_is 16 (bytes_in c) p.1 p.3).0)
    ∙ ap entry_words p.4
reap_is (q ∷ c ∷ x ∷ words) e h = absurd cc

-- words that are read are those of the entry
words_are : (words : List (List ℕ)) (e : Entry) → entry_words_in words ≡ Some e → words ≡ entry_words e
unfolding entry_words_in
words_are [] e h = absurd cc
words_are (kind ∷ words) e h =
    by (bytes_eq kind (codes "publish")) (bytes_eq kind (codes "fetch")) (bytes_eq kind (codes "grant"))
    (bytes_eq kind (codes "block")) (bytes_eq kind (codes "post")) (bytes_eq kind (codes "reap"))
    refl refl refl refl refl refl h
  where
    by : (a b c d f g : Bool) → bytes_eq kind (codes "publish") ≡ a → bytes_eq kind (codes "fetch") ≡ b
        → bytes_eq kind (codes "grant") ≡ c
        → bytes_eq kind (codes "block") ≡ d → bytes_eq kind (codes "post") ≡ f → bytes_eq kind (codes "reap") ≡ g
        → cond a (publish_in words)
        (cond b (fetch_in words)
        (cond c (grant_in words) (cond d (block_in words) (cond f (post_in words) (cond g (reap_in words) None)))))
        ≡ Some e
        → kind ∷ words ≡ entry_words e
    by true b c d f g i j k l m n h = ap (λ w. w ∷ words) (bytes_eq_true kind (codes "publish") i)
        ∙ publish_is words e h
    by false true c d f g i j k l m n h = ap (λ w. w ∷ words) (bytes_eq_true kind (codes "fetch") j)
        ∙ fetch_is words e h
    by false false true d f g i j k l m n h = ap (λ w. w ∷ words) (bytes_eq_true kind (codes "grant") k)
        ∙ grant_is words e h
    by false false false true f g i j k l m n h = ap (λ w. w ∷ words) (bytes_eq_true kind (codes "block") l)
        ∙ block_is words e h
    by false false false false true g i j k l m n h = ap (λ w. w ∷ words) (bytes_eq_true kind (codes "post") m)
        ∙ post_is words e h
    by false false false false false true i j k l m n h = ap (λ w. w ∷ words) (bytes_eq_true kind (codes "reap") n)
        ∙ reap_is words e h
    by false false false false false false i j k l m n h = absurd cc

-- a line that is read is that of the entry
pub entry_is : (line : List ℕ) (e : Entry) → entry_in line ≡ Some e → line ≡ entry_line e
unfolding entry_in entry_line
entry_is line e h = sym (join_with_byte-slice_split 32 line)
    ∙ ap (join_with_byte 32) (words_are (slice_split (λ b. eqb b 32) line) e h)

-- at the call
pub entry_found : (line : List ℕ) (r : Result Entry LineFault) → GivesRead r (entry_in line)
    → IfOk r (λ e. line ≡ entry_line e)
entry_found line (Ok e) h = entry_is line e h
entry_found line (Err f) h = tt
