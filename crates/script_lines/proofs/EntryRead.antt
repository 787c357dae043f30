-- The words of an entry are read as that entry.
use Rattle.std.proofs.Common.{◌≡◌, ℕ, ◌<◌, ◌^◌, false, List, Some, refl, ap, ◌∙◌}
use Rattle.std.proofs.Common.{arith}
use Rattle.std.specs.Prelude.{codes, decimal}
use Rattle.std.specs.List.{AllByRecursion}
use Rattle.std.specs.Str.{bytes_eq}
use Rattle.hex.specs.Hex.{IsBytes}
use Rattle.line_text.specs.Number.{number_in}
use Rattle.line_text.specs.Data.{data_text, data_in}
use Rattle.line_text.specs.Words.{Without}
use Rattle.line_text.proofs.NumberLaws.{decimal_spaceless}
use Rattle.line_text.proofs.DataLaws.{data_spaceless}
use Rattle.line_text.proofs.WordLaws.{upper_without}
use Rattle.entry_codec.specs.declared.fuse.Fuse.{Fuse}
use Rattle.entry_codec.specs.declared.fuse.Fuse.TheVariants.{Normal, First, Second, Reserved}
use Rattle.entry_codec.specs.Fuse.{fuse_number}
use Rattle.history.specs.BatchWords.{item_from}
use Rattle.history.proofs.LinesAgain.{number_16, number_64, payload_again}
use Rattle.script_lines.specs.Commands.{command_from, fuse_from, fuse_in, opcode_in, script_item_in}
use Rattle.script_lines.specs.Asked.{form_bytes, name_opcode, submission_asked}
use Rattle.script_lines.specs.Written.{HasEntry, HasForm, form_words, name_text}
use Rattle.script_lines.specs.declared.written.CommandWord.{CommandWord}
use Rattle.script_lines.specs.declared.written.CommandWord.TheVariants.{Flush, Write, Read, Compare, WriteZeroes}
use Rattle.script_lines.specs.declared.written.EntryForm.{EntryForm}
use Rattle.script_lines.specs.declared.written.EntryForm.TheVariants.{Named, Raw}
use Rattle.script_lines.specs.declared.written.WrittenEntry.{WrittenEntry}
use Rattle.script_lines.proofs.WordsRead.{data_isnt, digits_arent, number_isnt}
use Rattle.script_lines.proofs.WordsRead.{raw_again}

-- a name is that of its opcode
name_again : (name : CommandWord) → opcode_in (name_text name) ≡ Some (name_opcode name)
name_again Flush = refl
name_again Write = refl
name_again Read = refl
name_again Compare = refl
name_again WriteZeroes = refl

-- a FUSE is read
fuse_again : (fuse : Fuse) → fuse_in (decimal (fuse_number fuse)) ≡ Some fuse
fuse_again Normal = ap fuse_from (number_16 0 (omega arith))
fuse_again First = ap fuse_from (number_16 1 (omega arith))
fuse_again Second = ap fuse_from (number_16 2 (omega arith))
fuse_again Reserved = ap fuse_from (number_16 3 (omega arith))

-- a FUSE is small
pub fuse_small : (fuse : Fuse) → fuse_number fuse < 2 ^ 64
fuse_small Normal = omega arith
fuse_small First = omega arith
fuse_small Second = omega arith
fuse_small Reserved = omega arith

-- a name has no space in it
name_spaceless : (name : CommandWord) → Without 32 (name_text name)
name_spaceless Flush = (refl, (refl, (refl, (refl, (refl, tt)))))
name_spaceless Write = (refl, (refl, (refl, (refl, (refl, tt)))))
name_spaceless Read = (refl, (refl, (refl, (refl, tt))))
name_spaceless Compare = (refl, (refl, (refl, (refl, (refl, (refl, (refl, tt)))))))
name_spaceless WriteZeroes = (refl, (refl, (refl, (refl, (refl, (refl, tt))))))

-- a name isn't `+`
name_isnt : (name : CommandWord) → bytes_eq (name_text name) (codes "+") ≡ false
name_isnt Flush = refl
name_isnt Write = refl
name_isnt Read = refl
name_isnt Compare = refl
name_isnt WriteZeroes = refl

-- the words of an entry with its data are read as these
form_again : (f : EntryForm) (payload : List ℕ) → HasForm f → IsBytes payload
    → script_item_in (form_words f payload) ≡ Some (record { entry = form_bytes f; payload = payload })
unfolding script_item_in
form_again (Named c) payload fits bytes =
    ap (λ o. item_from (command_from o (fuse_in (decimal (fuse_number c.fuse))) (number_in 16 (decimal c.cid))
    (number_in 64 (decimal c.slba)) (number_in 16 (decimal c.nlb))) (data_in 512 (data_text 512 payload)))
    (name_again c.name)
    ∙ ap (λ o. item_from (command_from (Some (name_opcode c.name)) o (number_in 16 (decimal c.cid))
    (number_in 64 (decimal c.slba)) (number_in 16 (decimal c.nlb))) (data_in 512 (data_text 512 payload)))
    (fuse_again c.fuse)
    ∙ ap (λ o. item_from (command_from (Some (name_opcode c.name)) (Some c.fuse) o
    (number_in 64 (decimal c.slba)) (number_in 16 (decimal c.nlb))) (data_in 512 (data_text 512 payload)))
    (number_16 c.cid fits.0)
    ∙ ap (λ o. item_from (command_from (Some (name_opcode c.name)) (Some c.fuse) (Some c.cid) o
    (number_in 16 (decimal c.nlb))) (data_in 512 (data_text 512 payload)))
    (number_64 c.slba fits.1)
    ∙ ap (λ o. item_from (command_from (Some (name_opcode c.name)) (Some c.fuse) (Some c.cid) (Some c.slba) o)
    (data_in 512 (data_text 512 payload)))
    (number_16 c.nlb fits.2)
    ∙ ap (item_from (Some (form_bytes (Named c)))) (payload_again payload bytes)
form_again (Raw raw) payload fits bytes =
    ap (λ o. item_from o (data_in 512 (data_text 512 payload))) (raw_again raw fits.0 fits.1)
    ∙ ap (item_from (Some raw)) (payload_again payload bytes)

-- the words of an entry are read as that entry
pub entry_again : (x : WrittenEntry) → HasEntry x
    → script_item_in (form_words x.form x.payload) ≡ Some (submission_asked x)
entry_again x is = form_again x.form x.payload is.form is.payload

-- they have no space in them
pub entry_spaceless : (x : WrittenEntry) → HasEntry x → AllByRecursion (Without 32) (form_words x.form x.payload)
entry_spaceless x is = form_spaceless x.form x.payload is.form
  where
    form_spaceless : (f : EntryForm) (payload : List ℕ) → HasForm f
        → AllByRecursion (Without 32) (form_words f payload)
    form_spaceless (Named c) payload fits = (
      name_spaceless c.name,
      (
        decimal_spaceless (fuse_number c.fuse) (fuse_small c.fuse),
        (
          decimal_spaceless c.cid (omega (arith, fits.0)),
          (
            decimal_spaceless c.slba fits.1,
            (decimal_spaceless c.nlb (omega (arith, fits.2)), (data_spaceless 512 payload, tt)),
          ),
        ),
      ),
    )
    form_spaceless (Raw raw) payload fits =
        ((refl, (refl, (refl, tt))), (upper_without 32 raw refl, (data_spaceless 512 payload, tt)))

-- none of them is `+`
pub entry_isnt : (x : WrittenEntry) → HasEntry x
    → AllByRecursion (λ word. bytes_eq word (codes "+") ≡ false) (form_words x.form x.payload)
entry_isnt x is = form_isnt x.form x.payload is.form is.payload
  where
    form_isnt : (f : EntryForm) (payload : List ℕ) → HasForm f → IsBytes payload
        → AllByRecursion (λ word. bytes_eq word (codes "+") ≡ false) (form_words f payload)
    form_isnt (Named c) payload fits bytes = (
      name_isnt c.name,
      (
        number_isnt (fuse_number c.fuse) (fuse_small c.fuse),
        (
          number_isnt c.cid (omega (arith, fits.0)),
          (number_isnt c.slba fits.1, (number_isnt c.nlb (omega (arith, fits.2)), (data_isnt payload bytes, tt))),
        ),
      ),
    )
    form_isnt (Raw raw) payload fits bytes = (refl, (digits_arent raw fits.1, (data_isnt payload bytes, tt)))
