-- No line of a history has a line feed in it.
use Rattle.std.proofs.Common.{◌≡◌, ℕ, zero, suc, ◌+◌, ◌%◌, ◌/◌, ◌<◌, ◌^◌, Bool, true, false, cond, List, [], ◌∷◌, ◌++◌}
use Rattle.std.proofs.Common.{drop, length, map, refl, sym, subst, arith}
use Rattle.std.specs.Prelude.{codes, decimal}
use Rattle.std.specs.List.{join_with_byte, AllByRecursion}
use Rattle.std.proofs.Math.Dec.{eqb}
use Rattle.std.proofs.lemmas.Bool.{eqb-true, eqb-false}
use Rattle.line_text.proofs.Feeds.{append_feedless, decimal_feedless}
use Rattle.line_text.specs.Data.{block_text, parted_blocks, data_text}
use Rattle.line_text.specs.Lines.{NoFeed}
use Rattle.line_text.specs.Words.{Without}
use Rattle.line_text.proofs.DataLaws.{text_none, text_odd, text_whole}
use Rattle.line_text.proofs.WordLaws.{upper_without}
use Rattle.nvme_model.specs.declared.array.Mode.{Mode}
use Rattle.nvme_model.specs.declared.config.ConfigNumbers.{ConfigNumbers}
use Rattle.nvme_model.specs.declared.entry.Entry.{Entry}
use Rattle.nvme_model.specs.declared.operation.Found.{Found}
use Rattle.nvme_model.specs.declared.status.Status.{Status}
use Rattle.nvme_model.specs.declared.status.Verdict.{Verdict}
use Rattle.nvme_model.specs.declared.submission.Submission.{Submission}
use Rattle.history.specs.BatchWords.{more_words, publish_words}
use Rattle.history.specs.ConfigLine.{HasConfigLine, config_line, nine_words, ten_words}
use Rattle.history.specs.Lines.{HasLine, entry_line, entry_words}
use Rattle.history.specs.Marks.{found_word, mark_word, mode_word}
use Rattle.history.specs.StatusWord.{status_word, verdict_words}

-- ---- words

-- a decimal_feedless of 16 bits
number_16 : (n : ℕ) → n < 2 ^ 16 → Without 10 (decimal n)
number_16 n small = decimal_feedless n (omega arith)

-- words that are joined by another byte
joined : (d : ℕ) (words : List (List ℕ)) → eqb d 10 ≡ false → AllByRecursion (Without 10) words
    → Without 10 (join_with_byte d words)
joined d [] p ps = tt
joined d (w ∷ []) p ps = ps.0
joined d (w ∷ v ∷ vs) p ps = append_feedless w (d ∷ join_with_byte d (v ∷ vs)) ps.0 (p, joined d (v ∷ vs) p ps.1)

texts_feedless : (n : ℕ) (bytes : List ℕ) → AllByRecursion (Without 10) (map block_text (parted_blocks 512 n bytes))
unfolding parted_blocks
texts_feedless zero bytes = tt
texts_feedless (suc n) bytes = (upper_without 10 _ refl, texts_feedless n (drop 512 bytes))

-- data
data_feedless : (bytes : List ℕ) → Without 10 (data_text 512 bytes)
data_feedless bytes = by_length (length bytes) refl
  where
    by_rest : (b : Bool) → 0 < length bytes → eqb (length bytes % 512) 0 ≡ b → Without 10 (data_text 512 bytes)
    by_rest true some h = subst (Without 10) (sym (text_whole 512 bytes some (eqb-true _ _ h)))
        (joined 46 _ refl (texts_feedless (length bytes / 512) bytes))
    by_rest false some h = subst (Without 10) (sym (text_odd 512 bytes some h)) (refl, upper_without 10 bytes refl)

    by_length : (n : ℕ) → length bytes ≡ n → Without 10 (data_text 512 bytes)
    by_length zero h = subst (Without 10) (sym (text_none 512 bytes h)) (refl, tt)
    by_length (suc n) h = by_rest (eqb (length bytes % 512) 0) (omega arith) refl

digit_no_feed : (n : ℕ) → eqb (48 + n) 10 ≡ false
digit_no_feed n = grind arith

status_feedless : (s : Status) → Without 10 (status_word s)
status_feedless s = (digit_no_feed s.sct, (refl, upper_without 10 (s.sc ∷ []) refl))

verdict_feedless : (v : Verdict) → AllByRecursion (Without 10) (verdict_words v)
verdict_feedless Verdict.Single = ((refl, tt), ((refl, (refl, tt)), tt))
verdict_feedless (Verdict.SingleFailed s) = ((refl, tt), (status_feedless s, tt))
verdict_feedless Verdict.Pair = ((refl, tt), ((refl, (refl, tt)), tt))
verdict_feedless (Verdict.PairFailed s r) = ((refl, tt), (status_feedless s, (status_feedless r, tt)))

mode_feedless : (m : Mode) → Without 10 (mode_word m)
mode_feedless Mode.Shared = (refl, tt)
mode_feedless Mode.Exclusive = (refl, tt)

found_feedless : (f : Found) → Without 10 (found_word f)
found_feedless Found.Read = (refl, (refl, (refl, (refl, tt))))
found_feedless Found.Equal = (refl, (refl, (refl, (refl, (refl, tt)))))
found_feedless Found.Differs = (refl, (refl, (refl, (refl, (refl, (refl, (refl, tt)))))))
found_feedless Found.Written = (refl, (refl, (refl, (refl, (refl, (refl, (refl, tt)))))))

mark_feedless : (b : Bool) → Without 10 (mark_word b)
mark_feedless true = (refl, tt)
mark_feedless false = (refl, tt)

more_feedless : (xs : List Submission) → AllByRecursion (Without 10) (more_words xs)
unfolding more_words
more_feedless [] = tt
more_feedless (x ∷ xs) = ((refl, tt), (upper_without 10 x.entry refl, (data_feedless x.payload, more_feedless xs)))

publish_feedless : (q : ℕ) (xs : List Submission) → q < 2 ^ 16 → AllByRecursion (Without 10) (publish_words q xs)
unfolding publish_words
publish_feedless q [] small = tt
publish_feedless q (x ∷ xs) small = (
  (refl, (refl, (refl, (refl, (refl, (refl, (refl, tt))))))),
  (number_16 q small, (upper_without 10 x.entry refl, (data_feedless x.payload, more_feedless xs))),
)

-- ---- lines

words_feedless : (e : Entry) → HasLine e → AllByRecursion (Without 10) (entry_words e)
unfolding entry_words
words_feedless (Entry.Publish p) is = publish_feedless p.queue p.batch is.0
words_feedless (Entry.Fetch f) is = (
  (refl, (refl, (refl, (refl, (refl, tt))))),
  (number_16 f.queue is.0, (decimal_feedless f.ticket is.1, verdict_feedless f.verdict)),
)
words_feedless (Entry.Grant g) is = (
  (refl, (refl, (refl, (refl, (refl, tt))))),
  (
    decimal_feedless g.ticket is.0,
    (
      decimal_feedless g.unit is.1,
      (decimal_feedless g.range.slba is.2, (number_16 g.range.blocks is.3, (mode_feedless g.mode, tt))),
    ),
  ),
)
words_feedless (Entry.Block b) is = (
  (refl, (refl, (refl, (refl, (refl, tt))))),
  (
    decimal_feedless b.ticket is.0,
    (
      decimal_feedless b.unit is.1,
      (decimal_feedless b.lba is.2, (found_feedless b.found, (mark_feedless b.effect, tt))),
    ),
  ),
)
words_feedless (Entry.Post p) is = (
  (refl, (refl, (refl, (refl, tt)))),
  (decimal_feedless p.ticket is.0, (upper_without 10 p.cqe refl, (data_feedless p.payload, tt))),
)
words_feedless (Entry.Reap r) is =
    ((refl, (refl, (refl, (refl, tt)))), (number_16 r.queue is.0, (upper_without 10 r.cqe refl, tt)))

no_feed : (line : List ℕ) → Without 10 line → NoFeed line
no_feed [] h = tt
no_feed (b ∷ bs) h = (eqb-false b 10 h.0, no_feed bs h.1)

pub entry_feedless : (e : Entry) → HasLine e → NoFeed (entry_line e)
unfolding entry_line
entry_feedless e is = no_feed _ (joined 32 (entry_words e) refl (words_feedless e is))

-- the numbers of a configuration, in front of other words
numbers_feedless : (c : ConfigNumbers) (more : List (List ℕ)) → HasConfigLine c → AllByRecursion (Without 10) more
    → AllByRecursion (Without 10) (nine_words c ++ more)
numbers_feedless c more is others = (
  decimal_feedless c.blocks (below is.blocks),
  (
    number_16 c.atomic.awun is.awun,
    (
      number_16 c.atomic.acwu is.acwu,
      (
        number_16 c.atomic.nabsn is.nabsn,
        (
          number_16 c.atomic.nabo is.nabo,
          (
            number_16 c.pairs is.pairs,
            (number_16 c.sq_size is.sq_size, (number_16 c.cq_size is.cq_size, (number_16 c.jobs is.jobs, others))),
          ),
        ),
      ),
    ),
  ),
)
  where
    below : {n : ℕ} → n < 2 ^ 32 → n < 2 ^ 64
    below h = omega arith

config_words_feedless : (c : ConfigNumbers) (t : Bool) → HasConfigLine c
    → Without 10 (join_with_byte 32 (cond t (codes "config" ∷ nine_words c) (codes "config2" ∷ ten_words c)))
config_words_feedless c true is =
    joined 32 (codes "config" ∷ nine_words c) refl
    ((refl, (refl, (refl, (refl, (refl, (refl, tt)))))), numbers_feedless c [] is tt)
config_words_feedless c false is =
    joined 32 (codes "config2" ∷ ten_words c) refl (
      (refl, (refl, (refl, (refl, (refl, (refl, (refl, tt))))))),
      numbers_feedless c (decimal c.cqs ∷ []) is (number_16 c.cqs is.cqs, tt),
    )

pub config_feedless : (c : ConfigNumbers) → HasConfigLine c → NoFeed (config_line c)
config_feedless c is = no_feed _ (config_words_feedless c (eqb c.cqs c.pairs) is)
