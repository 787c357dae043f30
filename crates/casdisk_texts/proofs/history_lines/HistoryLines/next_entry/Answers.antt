use Rattle.std.proofs.Common.{◌≡◌, ◌⊎◌, ◌∷◌, Err, None, [], ap, inl, inr, length, refl, sym, vec_len, ◌∙◌}
use Rattle.std.specs.Prelude.{option_map}
use Rattle.std.proofs.lemmas.Bool.{eqb-false, eqb-true}
use Rattle.std.proofs.lemmas.List.{nil_from_length}
use Rattle.casdisk_texts.specs.Files.{entry_added, file_of}
use Rattle.casdisk_texts.specs.Script.{Outcome, bad_line, cut, done}
use Rattle.casdisk_texts.proofs.Answering.{lost}
use Rattle.casdisk_texts.proofs.Reaching.{at_bad, at_end, goes_on, print_none, print_rest}
use Rattle.casdisk_texts.proofs.history_lines.HistoryLines.next_entry.Goals as goal

pub returns-in-Err : goal.returns-in-Err
returns-in-Err g c = record {
  given = λ past input at.
      rw c.read_fault.ensures.cause
      (lost past c.args.number input _ _ _ at c.in-Err.fault _ _ c.in-Err.ensures.err
      (λ e. c.in-Err.ensures.input (ap Err e)));
}

pub returns-then-is_empty : goal.returns-then-is_empty
returns-then-is_empty g c = record {
  given = λ past input at.
      let line = c.next_line.new.line in
      let x = rw c.in-Ok-Rest.field-0-is at c.in-Ok-Rest.ensures.line in
      let nothing : line.items ≡ [] =
      nil_from_length line.items
      (sym line.ok.0 ∙ eqb-true (vec_len line) 0 (sym c.is_empty.ensures ∙ c.if-is_empty.true)) in (
        x.3,
        at_end file_of entry_added past c.args.number input _ _ None None _ at
            (λ (o : Outcome). (o.end ≡ done) × (o.past ≡ past)) _ line.items done x.0 x.1 x.2 x.3
            (print_none _ _ _ line.items nothing) (refl, refl),
      );
}

pub returns-in-Ok-Rest : goal.returns-in-Ok-Rest
returns-in-Ok-Rest g c = record {
  given = λ past input at.
      let line = c.next_line.new.line in
      let n = c.args.number in
      let x = rw c.in-Ok-Rest.field-0-is at c.in-Ok-Rest.ensures.line in
      let something : line.items ≡ [] → ⊥ =
      λ (e : line.items ≡ []).
      eqb-false (vec_len line) 0 (sym c.is_empty.ensures ∙ c.if-is_empty.false) (line.ok.0 ∙ ap length e) in
      at_end file_of entry_added past n input _ _ None None _ at
      (λ (o : Outcome). ((o.end ≡ bad_line n) ⊎ (o.end ≡ cut n)) × (o.past ≡ past)) _ line.items (cut n) x.0 x.1 x.2 x.3
      (print_rest _ _ _ line.items something) (inr refl, refl);
}

pub returns-in-Ok : goal.returns-in-Ok
returns-in-Ok g c = record {
  given = λ past input at.
      let x = rw c.in-Ok-Whole.field-0-is at c.in-Ok-Whole.ensures.line in
      let said = rw c.as_slice.ensures.value at c.in-Ok.ensures.value in
      goes_on file_of entry_added past c.args.number input _ _ None None _ at _ c.next_line.new.line.items None
      (c.in-Ok.entry ∷ past, []) x.0 x.1 (ap (option_map (λ e. (e ∷ past, []))) said) tt;
}

pub returns-in-Err-Malformed : goal.returns-in-Err-Malformed
returns-in-Err-Malformed g c = record {
  given = λ past input at.
      let n = c.args.number in
      let x = rw c.in-Ok-Whole.field-0-is at c.in-Ok-Whole.ensures.line in
      let none = rw (c.in-Err-Malformed.field-0-is, c.as_slice.ensures.value) at c.in-Err-Malformed.ensures.value in
      at_bad file_of entry_added past n input _ _ None None _ at
      (λ (o : Outcome). ((o.end ≡ bad_line n) ⊎ (o.end ≡ cut n)) × (o.past ≡ past)) _ c.next_line.new.line.items
      x.0 x.1 (ap (option_map (λ e. (e ∷ past, []))) none) (inl refl, refl);
}
