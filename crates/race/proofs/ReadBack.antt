-- The text of a history is read back.
use Rattle.std.proofs.Common.{◌≡◌, ℕ, ◌+◌, List, [], ◌∷◌, ◌++◌, None, Some, map, reverse, refl, sym, ap, ◌∙◌}
use Rattle.std.proofs.Common.{append-nil, append_assoc}
use Rattle.std.specs.Prelude.{option_map}
use Rattle.std.specs.List.{AllByRecursion}
use Rattle.std.proofs.lemmas.List.{reverse-append}
use Rattle.line_text.specs.Lines.{NoFeed, rest_line, whole_lines, with_feeds}
use Rattle.line_text.proofs.LineLaws.{lines_again}
use Rattle.nvme_model.specs.Config.{config_fault}
use Rattle.nvme_model.specs.History.{Past}
use Rattle.nvme_model.specs.declared.config.ConfigNumbers.{ConfigNumbers}
use Rattle.nvme_model.specs.declared.entry.Entry.{Entry}
use Rattle.history.specs.ConfigLine.{HasConfigLine, config_line}
use Rattle.history.specs.Lines.{HasLine, entry_line}
use Rattle.history.proofs.ConfigLaws.{config_again}
use Rattle.history.proofs.LinesAgain.{entry_again}
use Rattle.casdisk_texts.specs.Files.{entry_added, file_of}
use Rattle.casdisk_texts.specs.Script.{after_config, after_line, after_numbers, done, ending, first_config}
use Rattle.casdisk_texts.specs.Script.{lines_print, prefixed, script_prints}
use Rattle.race.proofs.Feeds.{config_feedless, entry_feedless}

entries_feedless : (entries : List Entry) → AllByRecursion HasLine entries
    → AllByRecursion NoFeed (map entry_line entries)
entries_feedless [] h = tt
entries_feedless (e ∷ es) h = (entry_feedless e h.0, entries_feedless es h.1)

-- they are those of its text, and nothing stands behind them
split_back : (lines : List (List ℕ)) → AllByRecursion NoFeed lines
    → (whole_lines (with_feeds lines) ≡ lines) × (rest_line (with_feeds lines) ≡ [])
split_back lines h =
    let again = lines_again lines [] h tt in (
      ap whole_lines (sym (append-nil (with_feeds lines))) ∙ again.0,
      ap rest_line (sym (append-nil (with_feeds lines)))
          ∙ again.1,
    )

-- the lines of entries add them
entries_read : (past : Past) (n : ℕ) (entries : List Entry) → AllByRecursion HasLine entries
    → lines_print entry_added past n (map entry_line entries) [] ≡ ending done (reverse entries ++ past)
unfolding lines_print
entries_read past n [] h = refl
entries_read past n (e ∷ es) h =
    ap (λ o. after_line n past (option_map (λ x. (x ∷ past, [])) o)
    (λ after. lines_print entry_added after (n + 1) (map entry_line es) [])) (entry_again e h.0)
    ∙ ap (prefixed []) (entries_read (e ∷ past) (n + 1) es h.1)
    ∙ ap (ending done) (sym (ap (λ l. l ++ past) (reverse-append (e ∷ []) es)
    ∙ append_assoc (reverse es) (e ∷ []) past))

module _ (c : ConfigNumbers) (entries : List Entry) (is : HasConfigLine c) (have : AllByRecursion HasLine entries) where
  back : (whole_lines (with_feeds (config_line c ∷ map entry_line entries)) ≡ config_line c ∷ map entry_line entries)
      × (rest_line (with_feeds (config_line c ∷ map entry_line entries)) ≡ [])
  back = split_back (config_line c ∷ map entry_line entries) (config_feedless c is, entries_feedless entries have)

  pub config_read : first_config (whole_lines (with_feeds (config_line c ∷ map entry_line entries))) ≡ Some c
  config_read = ap first_config back.0 ∙ config_again c is

  script_read : config_fault c ≡ None
      → script_prints (λ d. entry_added) (config_line c ∷ map entry_line entries) []
      ≡ prefixed (config_line c ++ 10 ∷ []) (ending done (reverse entries))
  unfolding script_prints
  script_read accepted =
      ap (λ o. after_config (config_line c) o (λ d. lines_print entry_added [] 2 (map entry_line entries) []))
      (config_again c is)
      ∙ ap (λ o. after_numbers (config_line c) o (lines_print entry_added [] 2 (map entry_line entries) [])) accepted
      ∙ ap (prefixed (config_line c ++ 10 ∷ []))
      (entries_read [] 2 entries have ∙ ap (ending done) (append-nil (reverse entries)))

  pub file_read : config_fault c ≡ None
      → file_of (with_feeds (config_line c ∷ map entry_line entries))
      ≡ prefixed (config_line c ++ 10 ∷ []) (ending done (reverse entries))
  file_read accepted =
      ap (λ l. script_prints (λ d. entry_added) l (rest_line (with_feeds (config_line c ∷ map entry_line entries))))
      back.0
      ∙ ap (λ l. script_prints (λ d. entry_added) (config_line c ∷ map entry_line entries) l) back.1
      ∙ script_read accepted
