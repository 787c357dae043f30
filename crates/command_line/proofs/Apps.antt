-- What clap reads of a command that a rule or a command was added to.
use Rattle.std.proofs.Common.{◌≡◌, ◌∙◌, Bool, Err, Ok, Result, ap, ap₂, false, refl, subst, sym, true}
use Rattle.std.specs.Prelude.{IfOk, IsOkAnd, is_some, length, not, ◌&&◌, ◌==◌}
use Rattle.std.proofs.lemmas.Result.{IfOk-weaker}
use Rattle.clap.specs.Words.{AddsArg, AddsSubcommand, App, Rule, Text, app_of, rule_of, with_rule, with_subcommand}
use Rattle.clap.specs.declared.builder.Arg.{Arg}
use Rattle.clap.specs.declared.builder.command.Command.{Command}
use Rattle.command_line.specs.CommandLine.{argument_rule}
use Rattle.command_line.specs.declared.options.Argument.{Argument}
use Rattle.command_line.specs.declared.options.Argument.TheVariants.{Area, Flag, Input, Needed, Number, NumberOr}

-- a last test that has to fail
pub last_of_two : (a b g : Bool) → (a && (b && not g)) ≡ true → g ≡ false
last_of_two true true false h = refl
last_of_two true true true h = absurd cc
last_of_two true false g h = absurd cc
last_of_two false b g h = absurd cc

-- the third of tests that all hold
pub third_fails : (a b g r : Bool) → (a && (b && (not g && r))) ≡ true → g ≡ false
third_fails true true false r h = refl
third_fails true true true r h = absurd cc
third_fails true false g r h = absurd cc
third_fails false b g r h = absurd cc

both_hold : (a b : Bool) → (a && b) ≡ true → b ≡ true
both_hold true b h = h
both_hold false b h = absurd cc

-- the last of ten tests that all hold
tenth_fails : (a b c d e f i j k g : Bool) → (a && (b && (c && (d && (e && (f && (i && (j && (k && not g))))))))) ≡ true
    → g ≡ false
tenth_fails a b c d e f i j k g h =
    last_of_two j k g (both_hold i _
    (both_hold f _ (both_hold e _ (both_hold d _ (both_hold c _ (both_hold b _ (both_hold a _ h)))))))

-- an argument whose rule is simple isn't global
pub not_global : (a : Arg) → (rule_of a).is_simple ≡ true → a.global ≡ false
not_global a h =
    tenth_fails (length a.overrides.items == 0) (length a.default_vals_ifs.items == 0) (length a.groups.items == 0)
    (not (is_some a.val_delim)) (not (is_some a.terminator))
    (not a.allow_hyphen_values) (not a.allow_negative_numbers) (not a.require_equals) (not a.last) a.global h

-- what a command takes has a simple rule
pub is_argument_simple : (a : Argument) (name : Text) → (argument_rule a name).is_simple ≡ true
is_argument_simple Input name = refl
is_argument_simple (Argument.Text value) name = refl
is_argument_simple Flag name = refl
is_argument_simple Area name = refl
is_argument_simple (Number value) name = refl
is_argument_simple (Needed value) name = refl
is_argument_simple (NumberOr value number) name = refl

-- a command with one more argument, whose rule is simple
pub adds_rule : {E : Type 0} (r : Result Command E) (old : Command) (a : Arg) (rule : Rule) → rule_of a ≡ rule
    → rule.is_simple ≡ true → IfOk r (λ c. AddsArg old a c) → IfOk r (λ c. app_of c ≡ with_rule (app_of old) rule)
adds_rule r old a rule is simple h =
    IfOk-weaker r _ _
    (λ m adds. adds.shape (not_global a (ap (λ (x : Rule). x.is_simple) is ∙ simple))
    ∙ ap (with_rule (app_of old)) is) h

-- what clap says of a command below another, where its making may have failed
pub below_is : {E : Type 0} (r : Result Command E) (old b new : Command) → r ≡ Ok b
    → IfOk r (λ x. (app_of x).top.is_plain ≡ true) → AddsSubcommand old b new
    → IsOkAnd r (λ x. app_of new ≡ with_subcommand (app_of old) (app_of x).top)
below_is r old b new made plain h =
    let simple : (app_of b).top.is_plain ≡ true =
    subst (λ (x : Result Command _). IfOk x (λ y. (app_of y).top.is_plain ≡ true)) made plain in
    subst (λ (x : Result Command _). IsOkAnd x (λ y. app_of new ≡ with_subcommand (app_of old) (app_of y).top))
    (sym made) (h.shape (third_fails _ _ _ _ simple))

-- such a command below another
pub below_adds : {E : Type 0} (r : Result Command E) (old new known a : App) → old ≡ known → IfOk r (λ b. app_of b ≡ a)
    → IsOkAnd r (λ b. new ≡ with_subcommand old (app_of b).top) → new ≡ with_subcommand known a.top
below_adds (Ok b) old new known a same e h = h ∙ ap₂ with_subcommand same (ap (λ (x : App). x.top) e)
below_adds (Err e) old new known a same i h = absurd h
