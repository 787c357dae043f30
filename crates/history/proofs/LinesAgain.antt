-- The line of an entry is read as that entry.
use Rattle.std.proofs.Common.{◌≡◌, ◌≢◌, ℕ, ◌<◌, ◌^◌, List, [], ◌∷◌, length, Some, refl, ap, ◌∙◌, subst, arith}
use Rattle.std.specs.Prelude.{Result, codes, decimal}
use Rattle.std.specs.List.{slice_split, join_with_byte, AllByRecursion}
use Rattle.std.proofs.Math.Dec.{eqb}
use Rattle.hex.specs.Hex.{encode_upper, IsBytes}
use Rattle.line_text.specs.Number.{number_in}
use Rattle.line_text.specs.Digits.{bytes_in, fixed_in}
use Rattle.line_text.specs.Data.{data_text, data_in}
use Rattle.line_text.proofs.NumberLaws.{number_some, decimal_spaceless}
use Rattle.line_text.proofs.HexLaws.{bytes_again, fixed_some}
use Rattle.line_text.proofs.DataLaws.{data_again, data_spaceless}
use Rattle.line_text.proofs.WordLaws.{words_again, upper_without}
use Rattle.nvme_model.specs.declared.entry.Entry.{Entry}
use Rattle.nvme_model.specs.declared.entry.PublishLine.{PublishLine}
use Rattle.nvme_model.specs.declared.entry.FetchLine.{FetchLine}
use Rattle.nvme_model.specs.declared.entry.GrantLine.{GrantLine}
use Rattle.nvme_model.specs.declared.entry.BlockLine.{BlockLine}
use Rattle.nvme_model.specs.declared.entry.PostLine.{PostLine}
use Rattle.nvme_model.specs.declared.entry.ReapLine.{ReapLine}
use Rattle.nvme_model.specs.declared.submission.Submission.{Submission}
use Rattle.history.specs.declared.line_fault.LineFault.{LineFault}
use Rattle.history.specs.Gives.{GivesRead}
use Rattle.history.specs.StatusWord.{verdict_words, verdict_in}
use Rattle.history.specs.Marks.{mode_word, mode_in, found_word, found_in, mark_word, mark_in}
use Rattle.history.specs.BatchWords.{more_words, publish_words, batch_in}
use Rattle.history.specs.Lines.{entry_words, entry_line, HasItem, HasLine, publish_from, fetch_from, grant_from}
use Rattle.history.specs.Lines.{block_from, post_from, reap_from, publish_in, fetch_in, grant_in, block_in, post_in}
use Rattle.history.specs.Lines.{reap_in, entry_words_in, entry_in}
use Rattle.history.proofs.StatusLaws.{verdict_again, verdict_spaceless}
use Rattle.history.proofs.MarkLaws.{mode_again, mode_spaceless, found_again, found_spaceless, mark_again}
use Rattle.history.proofs.MarkLaws.{mark_spaceless}
use Rattle.history.proofs.BatchLaws.{batch_again, more_spaceless}

-- ---- numbers and lists of bytes in a line

-- a number of 16 bits
pub number_16 : (n : ℕ) → n < 2 ^ 16 → number_in 16 (decimal n) ≡ Some n
number_16 n small = number_some 16 n (decimal n) small (omega arith) refl

-- a number of 32 bits
pub number_32 : (n : ℕ) → n < 2 ^ 32 → number_in 32 (decimal n) ≡ Some n
number_32 n small = number_some 32 n (decimal n) small (omega arith) refl

-- a number of 64 bits
pub number_64 : (n : ℕ) → n < 2 ^ 64 → number_in 64 (decimal n) ≡ Some n
number_64 n small = number_some 64 n (decimal n) small small refl

-- the bytes of a completion
pub cqe_again : (cqe : List ℕ) → length cqe ≡ 16 → IsBytes cqe → fixed_in 16 (bytes_in (encode_upper cqe)) ≡ Some cqe
cqe_again cqe long fits =
    fixed_some 16 (bytes_in (encode_upper cqe)) cqe (bytes_again (encode_upper cqe) cqe fits refl) long

-- data
pub payload_again : (payload : List ℕ) → IsBytes payload → data_in 512 (data_text 512 payload) ≡ Some payload
payload_again payload fits = data_again 512 (data_text 512 payload) payload (omega arith) fits refl

-- ---- each kind

-- entries behind their queue
entries_again : (q : ℕ) (xs : List Submission) → q < 2 ^ 16 → xs ≢ [] → AllByRecursion HasItem xs
    → entry_words_in (publish_words q xs) ≡ Some (Entry.Publish (record { queue = q; batch = xs }))
unfolding entry_words_in publish_in publish_words
entries_again q [] small some fits = absurd (some refl)
entries_again q (x ∷ xs) small some fits =
    ap (λ o. publish_from o (batch_in (encode_upper x.entry ∷ data_text 512 x.payload ∷ more_words xs)))
    (number_16 q small)
    ∙ ap (publish_from (Some q)) (batch_again x xs fits.0 fits.1)

-- a Publish
publish_again : (p : PublishLine) → HasLine (Entry.Publish p)
    → entry_words_in (entry_words (Entry.Publish p)) ≡ Some (Entry.Publish p)
unfolding entry_words
publish_again p is = entries_again p.queue p.batch is.0 is.1 is.2

-- a Fetch
fetch_again : (f : FetchLine) → HasLine (Entry.Fetch f)
    → entry_words_in (entry_words (Entry.Fetch f)) ≡ Some (Entry.Fetch f)
unfolding entry_words_in entry_words fetch_in
fetch_again f is =
    ap (λ o. fetch_from o (number_in 64 (decimal f.ticket)) (verdict_in (verdict_words f.verdict)))
    (number_16 f.queue is.0)
    ∙ ap (λ o. fetch_from (Some f.queue) o (verdict_in (verdict_words f.verdict))) (number_64 f.ticket is.1)
    ∙ ap (fetch_from (Some f.queue) (Some f.ticket)) (verdict_again f.verdict is.2)

-- a Grant
grant_again : (g : GrantLine) → HasLine (Entry.Grant g)
    → entry_words_in (entry_words (Entry.Grant g)) ≡ Some (Entry.Grant g)
unfolding entry_words_in entry_words grant_in
grant_again g is =
    let s : ℕ = g.range.slba in
    let n : ℕ = g.range.blocks in
    ap (λ o. grant_from o (number_in 64 (decimal g.unit)) (number_in 64 (decimal s)) (number_in 16 (decimal n))
    (mode_in (mode_word g.mode))) (number_64 g.ticket is.0)
    ∙ ap (λ o. grant_from (Some g.ticket) o (number_in 64 (decimal s)) (number_in 16 (decimal n))
    (mode_in (mode_word g.mode))) (number_64 g.unit is.1)
    ∙ ap (λ o. grant_from (Some g.ticket) (Some g.unit) o (number_in 16 (decimal n)) (mode_in (mode_word g.mode)))
    (number_64 s is.2)
    ∙ ap (λ o. grant_from (Some g.ticket) (Some g.unit) (Some s) o (mode_in (mode_word g.mode))) (number_16 n is.3)
    ∙ ap (grant_from (Some g.ticket) (Some g.unit) (Some s) (Some n)) (mode_again g.mode)

-- a Block
block_again : (b : BlockLine) → HasLine (Entry.Block b)
    → entry_words_in (entry_words (Entry.Block b)) ≡ Some (Entry.Block b)
unfolding entry_words_in entry_words block_in
block_again b is =
    ap (λ o. block_from o (number_in 64 (decimal b.unit)) (number_in 64 (decimal b.lba)) (found_in (found_word b.found))
    (mark_in (mark_word b.effect))) (number_64 b.ticket is.0)
    ∙ ap (λ o. block_from (Some b.ticket) o (number_in 64 (decimal b.lba)) (found_in (found_word b.found))
    (mark_in (mark_word b.effect))) (number_64 b.unit is.1)
    ∙ ap (λ o. block_from (Some b.ticket) (Some b.unit) o (found_in (found_word b.found))
    (mark_in (mark_word b.effect))) (number_64 b.lba is.2)
    ∙ ap (λ o. block_from (Some b.ticket) (Some b.unit) (Some b.lba) o (mark_in (mark_word b.effect)))
    (found_again b.found)
    ∙ ap (block_from (Some b.ticket) (Some b.unit) (Some b.lba) (Some b.found)) (mark_again b.effect)

-- a Post
post_again : (p : PostLine) → HasLine (Entry.Post p) → entry_words_in (entry_words (Entry.Post p)) ≡ Some (Entry.Post p)
unfolding entry_words_in entry_words post_in
post_again p is =
    ap (λ o. post_from o (fixed_in 16 (bytes_in (encode_upper p.cqe))) (data_in 512 (data_text 512 p.payload)))
    (number_64 p.ticket is.0)
    ∙ ap (λ o. post_from (Some p.ticket) o (data_in 512 (data_text 512 p.payload))) (cqe_again p.cqe is.1 is.2)
    ∙ ap (post_from (Some p.ticket) (Some p.cqe)) (payload_again p.payload is.3)

-- a Reap
reap_again : (r : ReapLine) → HasLine (Entry.Reap r) → entry_words_in (entry_words (Entry.Reap r)) ≡ Some (Entry.Reap r)
unfolding entry_words_in entry_words reap_in
reap_again r is =
    ap (λ o. reap_from o (fixed_in 16 (bytes_in (encode_upper r.cqe)))) (number_16 r.queue is.0)
    ∙ ap (reap_from (Some r.queue)) (cqe_again r.cqe is.1 is.2)

-- the words of an entry are read as that entry
words_back : (e : Entry) → HasLine e → entry_words_in (entry_words e) ≡ Some e
words_back (Entry.Publish p) is = publish_again p is
words_back (Entry.Fetch f) is = fetch_again f is
words_back (Entry.Grant g) is = grant_again g is
words_back (Entry.Block b) is = block_again b is
words_back (Entry.Post p) is = post_again p is
words_back (Entry.Reap r) is = reap_again r is

-- ---- the line

-- the line of a Publish is split into its words
publish_split : (q : ℕ) (xs : List Submission) → q < 2 ^ 64 → xs ≢ []
    → slice_split (λ b. eqb b 32) (join_with_byte 32 (publish_words q xs)) ≡ publish_words q xs
unfolding publish_words
publish_split q [] small some = absurd (some refl)
publish_split q (x ∷ xs) small some =
    words_again 32 (codes "publish") (decimal q ∷ encode_upper x.entry ∷ data_text 512 x.payload ∷ more_words xs)
    (refl, (refl, (refl, (refl, (refl, (refl, (refl, tt)))))))
    (decimal_spaceless q small, (upper_without 32 x.entry refl, (data_spaceless 512 x.payload, more_spaceless xs)))

-- the line of an entry is split into its words
split_again : (e : Entry) → HasLine e → slice_split (λ b. eqb b 32) (join_with_byte 32 (entry_words e)) ≡ entry_words e
unfolding entry_words
split_again (Entry.Publish p) is = publish_split p.queue p.batch (omega (arith, is.0)) is.1
split_again (Entry.Fetch f) is =
    words_again 32 (codes "fetch") (decimal f.queue ∷ decimal f.ticket ∷ verdict_words f.verdict)
    (refl, (refl, (refl, (refl, (refl, tt)))))
    (decimal_spaceless f.queue (omega (arith, is.0)), (decimal_spaceless f.ticket is.1, verdict_spaceless f.verdict))
split_again (Entry.Grant g) is =
    words_again 32 (codes "grant")
    (decimal g.ticket ∷ decimal g.unit ∷ decimal g.range.slba ∷ decimal g.range.blocks ∷ mode_word g.mode ∷ [])
    (refl, (refl, (refl, (refl, (refl, tt))))) (
      decimal_spaceless g.ticket is.0,
      (
        decimal_spaceless g.unit is.1,
        (
          decimal_spaceless g.range.slba is.2,
          (decimal_spaceless g.range.blocks (omega (arith, is.3)), (mode_spaceless g.mode, tt)),
        ),
      ),
    )
split_again (Entry.Block b) is =
    words_again 32 (codes "block")
    (decimal b.ticket ∷ decimal b.unit ∷ decimal b.lba ∷ found_word b.found ∷ mark_word b.effect ∷ [])
    (refl, (refl, (refl, (refl, (refl, tt))))) (
      decimal_spaceless b.ticket is.0,
      (
        decimal_spaceless b.unit is.1,
        (decimal_spaceless b.lba is.2, (found_spaceless b.found, (mark_spaceless b.effect, tt))),
      ),
    )
split_again (Entry.Post p) is =
    words_again 32 (codes "post") (decimal p.ticket ∷ encode_upper p.cqe ∷ data_text 512 p.payload ∷ [])
    (refl, (refl, (refl, (refl, tt))))
    (decimal_spaceless p.ticket is.0, (upper_without 32 p.cqe refl, (data_spaceless 512 p.payload, tt)))
split_again (Entry.Reap r) is =
    words_again 32 (codes "reap") (decimal r.queue ∷ encode_upper r.cqe ∷ []) (refl, (refl, (refl, (refl, tt))))
    (decimal_spaceless r.queue (omega (arith, is.0)), (upper_without 32 r.cqe refl, tt))

-- the line of an entry is read as that entry
pub entry_again : (e : Entry) → HasLine e → entry_in (entry_line e) ≡ Some e
unfolding entry_in entry_line
entry_again e is = ap entry_words_in (split_again e is) ∙ words_back e is

-- at the call
pub entry_only : (line : List ℕ) (r : Result Entry LineFault) (e : Entry) → GivesRead r (entry_in line) → HasLine e
    → line ≡ entry_line e → GivesRead r (Some e)
entry_only line r e h is same = subst (GivesRead r) (ap entry_in same ∙ entry_again e is) h
