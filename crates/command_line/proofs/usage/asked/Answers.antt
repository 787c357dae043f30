use Rattle.std.proofs.Common.{List, ap, map, string_bytes, subst, sym, true, ◌≡◌, ◌∙◌}
use Rattle.std.specs.Prelude.{Some}
use Rattle.std.proofs.lemmas.Result.{IfErr-weaker, IfOk-weaker}
use Rattle.clap.specs.Words.{App, HasKind, Text, fault_of, found_of, is_simple, is_simple_and_free, rows_of}
use Rattle.clap.specs.Words.{kind_of, subcommand_of, takes}
use Rattle.clap.specs.declared.error.kind.ErrorKind.{ErrorKind}
use Rattle.command_line.specs.CommandLine.{are_words_taken, subcommand_in}
use Rattle.command_line.proofs.Parsed.{both_parts, by_command, casdisk_is_free, casdisk_is_simple, named}
use Rattle.command_line.proofs.Refused.{by_error, by_no_command, by_options, by_showing, names_none, no_parts, taken}
use Rattle.command_line.proofs.usage.asked.Goals as goal

pub returns-in-Some-clause-asks : goal.returns-in-Some-clause-asks
returns-in-Some-clause-asks c =
    let words : List Text = map string_bytes c.args.words.now in
    let rows = rows_of (found_of c.in-Some.inner.now) in
    let app_is = c.in_ok-command.ensures in
    let parts = (c.in-Ok.ensures.matches (ap is_simple app_is ∙ casdisk_is_simple)).1
    ∙ ap (λ (a : App). subcommand_of a words) app_is in
    let both = both_parts _ _ _ c.in-Some.name.now rows (sym c.in-Some.ensures.name) (sym c.in-Some.ensures.rows) in
    let entered : subcommand_in words ≡ Some (c.in-Some.name.now, rows) =
    named words c.in-Some.name.now rows (sym parts ∙ both) in
    IfOk-weaker c.command_asked.result _ _ (λ a h. by_command words c.in-Some.name.now rows entered a h)
    c.command_asked.ensures.asks

pub returns-in-Some-clause-refuses : goal.returns-in-Some-clause-refuses
returns-in-Some-clause-refuses c =
    let words : List Text = map string_bytes c.args.words.now in
    let rows = rows_of (found_of c.in-Some.inner.now) in
    let app_is = c.in_ok-command.ensures in
    let parts = (c.in-Ok.ensures.matches (ap is_simple app_is ∙ casdisk_is_simple)).1
    ∙ ap (λ (a : App). subcommand_of a words) app_is in
    let both = both_parts _ _ _ c.in-Some.name.now rows (sym c.in-Some.ensures.name) (sym c.in-Some.ensures.rows) in
    let entered : subcommand_in words ≡ Some (c.in-Some.name.now, rows) =
    named words c.in-Some.name.now rows (sym parts ∙ both) in
    IfErr-weaker c.command_asked.result _ _ (λ f h. by_options words c.in-Some.name.now rows entered f h)
    c.command_asked.ensures.refuses

pub returns-clause-refuses : goal.returns-clause-refuses
returns-clause-refuses c =
    let words : List Text = map string_bytes c.args.words.now in
    let app_is = c.in_ok-command.ensures in
    let parts = (c.in-Ok.ensures.matches (ap is_simple app_is ∙ casdisk_is_simple)).1
    ∙ ap (λ (a : App). subcommand_of a words) app_is in
    let both = no_parts _ _ _ (sym c.in-None.ensures.name) in
    by_no_command words (names_none words (sym parts ∙ both)) c.text_of.result

pub returns-in-Err-clause-refuses : goal.returns-in-Err-clause-refuses
returns-in-Err-clause-refuses c =
    let words : List Text = map string_bytes c.args.words.now in
    let app_is = c.in_ok-command.ensures in
    let error = c.in-Err.error in
    let kinds = subst (λ (a : App). HasKind (fault_of a words) error) app_is
    (c.in-Err.ensures.kinds (ap is_simple_and_free app_is ∙ casdisk_is_free)) in
    let none : are_words_taken words ≡ true → kind_of error ≡ ErrorKind.OutOfMemory =
    λ h. c.in-Err.ensures.passes (ap (λ (a : App). takes a words) app_is ∙ sym (taken words) ∙ h) in
    IfErr-weaker c.untaken.result _ _ (λ f h. by_error words error none kinds f h) c.untaken.ensures.told

pub returns-in-Err-clause-asks : goal.returns-in-Err-clause-asks
returns-in-Err-clause-asks c =
    let words : List Text = map string_bytes c.args.words.now in
    let app_is = c.in_ok-command.ensures in
    let error = c.in-Err.error in
    let kinds = subst (λ (a : App). HasKind (fault_of a words) error) app_is
    (c.in-Err.ensures.kinds (ap is_simple_and_free app_is ∙ casdisk_is_free)) in
    let none : are_words_taken words ≡ true → kind_of error ≡ ErrorKind.OutOfMemory =
    λ h. c.in-Err.ensures.passes (ap (λ (a : App). takes a words) app_is ∙ sym (taken words) ∙ h) in
    IfOk-weaker c.untaken.result _ _ (λ a h. by_showing words error none kinds a h) c.untaken.ensures.shown
