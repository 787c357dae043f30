-- The text of a line is read as what the line asks for.
use Rattle.std.proofs.Common.{◌≡◌, [], ◌∷◌, ◌++◌, Option, None, Some, refl, ap, ◌∙◌, arith}
use Rattle.std.proofs.Common.{append-nil, false}
use Rattle.std.specs.Prelude.{codes, decimal}
use Rattle.std.specs.List.{AllByRecursion, join_with_byte, slice_split}
use Rattle.std.specs.Str.{bytes_eq}
use Rattle.std.proofs.Math.Dec.{eqb}
use Rattle.std.proofs.lemmas.List.Splits.{slice_split_at, slice_split_none}
use Rattle.std.proofs.lemmas.List.Elements.{All-from_recursion}
use Rattle.line_text.specs.Words.{Without}
use Rattle.line_text.proofs.NumberLaws.{decimal_spaceless}
use Rattle.line_text.proofs.WordLaws.{words_again}
use Rattle.nvme_model.specs.declared.step.Step.{Step}
use Rattle.history.specs.BatchWords.{then_item}
use Rattle.history.proofs.LinesAgain.{number_16, number_64}
use Rattle.script_lines.specs.Batches.{items_in, parts_in, script_batch_in}
use Rattle.script_lines.specs.Commands.{script_item_in}
use Rattle.script_lines.specs.ScriptLines.{medium_of, one_number_in, script_line_in, script_publish_from}
use Rattle.script_lines.specs.ScriptLines.{script_publish_in, script_words_in, short_in, step_with}
use Rattle.script_lines.specs.Asked.{asked, second_asked, submission_asked}
use Rattle.script_lines.specs.Texts.{IsScriptLine}
use Rattle.script_lines.specs.Written.{HasEntry, HasSecond, IsWritten, form_words, line_text, line_words, second_words}
use Rattle.script_lines.specs.declared.written.WrittenEntry.{WrittenEntry}
use Rattle.script_lines.specs.declared.written.WrittenLine.{WrittenLine}
use Rattle.script_lines.specs.declared.written.WrittenLine.TheVariants.{Publish, Fetch, Grant, Block, Post, Reap}
use Rattle.script_lines.specs.declared.written.WrittenLine.TheVariants.{Settle, Medium}
use Rattle.script_lines.proofs.WordsRead.{all_append}
use Rattle.script_lines.proofs.EntryRead.{entry_again, entry_isnt, entry_spaceless}

-- one entry's words are one part
one_part : (x : WrittenEntry) → HasEntry x
    → parts_in (form_words x.form x.payload) ≡ form_words x.form x.payload ∷ []
one_part x is =
    slice_split_none (λ word. bytes_eq word (codes "+")) (form_words x.form x.payload)
    (All-from_recursion (λ word. bytes_eq word (codes "+") ≡ false) (form_words x.form x.payload) (entry_isnt x is))

-- two entries' words are two parts
two_parts : (x y : WrittenEntry) → HasEntry x → HasEntry y
    → parts_in (form_words x.form x.payload ++ (codes "+" ∷ form_words y.form y.payload))
    ≡ form_words x.form x.payload ∷ form_words y.form y.payload ∷ []
two_parts x y is it =
    slice_split_at (λ word. bytes_eq word (codes "+")) (form_words x.form x.payload) (codes "+")
    (form_words y.form y.payload)
    (All-from_recursion (λ word. bytes_eq word (codes "+") ≡ false) (form_words x.form x.payload) (entry_isnt x is))
    refl
    ∙ ap (λ l. form_words x.form x.payload ∷ l) (one_part y it)

-- the entries of two parts
items_one : (x : WrittenEntry) → HasEntry x
    → items_in (form_words x.form x.payload ∷ []) ≡ Some (submission_asked x ∷ [])
unfolding items_in
items_one x is = ap (λ o. then_item o (Some [])) (entry_again x is)

items_two : (x y : WrittenEntry) → HasEntry x → HasEntry y
    → items_in (form_words x.form x.payload ∷ form_words y.form y.payload ∷ [])
    ≡ Some (submission_asked x ∷ submission_asked y ∷ [])
unfolding items_in
items_two x y is it =
    ap (λ o. then_item o (then_item (script_item_in (form_words y.form y.payload)) (Some []))) (entry_again x is)
    ∙ ap (λ o. then_item (Some (submission_asked x)) (then_item o (Some []))) (entry_again y it)

-- the words of entries are read as these
batch_again : (x : WrittenEntry) (second : Option WrittenEntry) → HasEntry x → HasSecond second
    → script_batch_in (form_words x.form x.payload ++ second_words second)
    ≡ Some (submission_asked x ∷ second_asked second)
unfolding script_batch_in
batch_again x None is it =
    ap (λ l. items_in (parts_in l)) (append-nil (form_words x.form x.payload))
    ∙ ap items_in (one_part x is) ∙ items_one x is
batch_again x (Some y) is it = ap items_in (two_parts x y is it) ∙ items_two x y is it

-- the words of a line are read as what it asks for
words_again_asked : (line : WrittenLine) → IsWritten line → script_words_in (line_words line) ≡ Some (asked line)
unfolding script_words_in line_words script_publish_in short_in one_number_in
words_again_asked (Publish p) is =
    ap (λ o. script_publish_from o
    (script_batch_in (form_words p.first.form p.first.payload ++ second_words p.second)))
    (number_16 p.queue is.0)
    ∙ ap (script_publish_from (Some p.queue)) (batch_again p.first p.second is.1 is.2)
words_again_asked (Fetch n) is = ap (step_with Step.Fetch) (number_16 n is)
words_again_asked (Grant n) is = ap (step_with Step.Grant) (number_64 n is)
words_again_asked (Block n) is = ap (step_with Step.Block) (number_64 n is)
words_again_asked (Post n) is = ap (step_with Step.Post) (number_64 n is)
words_again_asked (Reap n) is = ap (step_with Step.Reap) (number_16 n is)
words_again_asked Settle is = refl
words_again_asked (Medium n) is = ap medium_of (number_64 n is)

-- the words of a second entry have no space in them
second_spaceless : (second : Option WrittenEntry) → HasSecond second → AllByRecursion (Without 32) (second_words second)
second_spaceless None is = tt
second_spaceless (Some y) is = ((refl, tt), entry_spaceless y is)

-- a line is split into its words
split_again : (line : WrittenLine) → IsWritten line
    → slice_split (λ b. eqb b 32) (join_with_byte 32 (line_words line)) ≡ line_words line
unfolding line_words
split_again (Publish p) is =
    words_again 32 (codes "publish")
    (decimal p.queue ∷ (form_words p.first.form p.first.payload ++ second_words p.second))
    (refl, (refl, (refl, (refl, (refl, (refl, (refl, tt))))))) (
      decimal_spaceless p.queue (omega (arith, is.0)),
      all_append (Without 32) (form_words p.first.form p.first.payload) (second_words p.second)
          (entry_spaceless p.first is.1) (second_spaceless p.second is.2),
    )
split_again (Fetch n) is =
    words_again 32 (codes "fetch") (decimal n ∷ []) (refl, (refl, (refl, (refl, (refl, tt)))))
    (decimal_spaceless n (omega (arith, is)), tt)
split_again (Grant n) is =
    words_again 32 (codes "grant") (decimal n ∷ []) (refl, (refl, (refl, (refl, (refl, tt)))))
    (decimal_spaceless n is, tt)
split_again (Block n) is =
    words_again 32 (codes "block") (decimal n ∷ []) (refl, (refl, (refl, (refl, (refl, tt)))))
    (decimal_spaceless n is, tt)
split_again (Post n) is =
    words_again 32 (codes "post") (decimal n ∷ []) (refl, (refl, (refl, (refl, tt)))) (decimal_spaceless n is, tt)
split_again (Reap n) is =
    words_again 32 (codes "reap") (decimal n ∷ []) (refl, (refl, (refl, (refl, tt))))
    (decimal_spaceless n (omega (arith, is)), tt)
split_again Settle is =
    words_again 32 (codes "settle") [] (refl, (refl, (refl, (refl, (refl, (refl, tt)))))) tt
split_again (Medium n) is =
    words_again 32 (codes "medium") (decimal n ∷ []) (refl, (refl, (refl, (refl, (refl, (refl, tt))))))
    (decimal_spaceless n is, tt)

-- no line that is written begins with `#`
no_comment : (line : WrittenLine) → script_line_in (join_with_byte 32 (line_words line))
    ≡ script_words_in (slice_split (λ b. eqb b 32) (join_with_byte 32 (line_words line)))
unfolding line_words script_line_in
no_comment (Publish p) = refl
no_comment (Fetch n) = refl
no_comment (Grant n) = refl
no_comment (Block n) = refl
no_comment (Post n) = refl
no_comment (Reap n) = refl
no_comment Settle = refl
no_comment (Medium n) = refl

-- a line that is written reads as what it asks for
pub line_again : (line : WrittenLine) → IsWritten line → IsScriptLine line
unfolding line_text
line_again line is = no_comment line ∙ ap script_words_in (split_again line is) ∙ words_again_asked line is
