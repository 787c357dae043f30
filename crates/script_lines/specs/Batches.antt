-- The entries of a `publish` line.
use Rattle.std.specs.Prelude.{ℕ, List, [], ◌∷◌, Option, Some, codes}
use Rattle.std.specs.List.{slice_split}
use Rattle.std.specs.Str.{bytes_eq}
use Rattle.nvme_model.specs.declared.submission.Submission.{Submission}
use Rattle.history.specs.BatchWords.{then_item}
use Rattle.script_lines.specs.Commands.{script_item_in}

-- the entry of each part, where all are there
unfoldable pub items_in : List (List (List ℕ)) → Option (List Submission)
items_in [] = Some []
items_in (part ∷ parts) = then_item (script_item_in part) (items_in parts)

-- the words of each entry: what stands between the words `+`, so at least one part
abbrev pub parts_in : List (List ℕ) → List (List (List ℕ))
parts_in words = slice_split (λ word. bytes_eq word (codes "+")) words

-- the entries that words spell, at least one
unfoldable pub script_batch_in : List (List ℕ) → Option (List Submission)
script_batch_in words = items_in (parts_in words)
