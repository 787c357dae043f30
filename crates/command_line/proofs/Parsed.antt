-- What clap's matches say of a command line.
use Rattle.std.proofs.Common.{◌≡◌, ℕ, true, List, Option, Some, None, ap, refl, sym, ◌∙◌}
use Rattle.std.specs.Prelude.{Err, IfSome, Ok, Result, option_map}
use Rattle.std.specs.Str.Parse.{ParsesUnsigned}
use Rattle.std.specs.declared.num.ParseIntError.{ParseIntError}
use Rattle.clap.specs.Words.{ReadsOne, Row, Text, one_of}
use Rattle.clap.proofs.OnLiterals.{clap_on_literals}
use Rattle.clap.specs.Words.{is_simple, is_simple_and_free, subcommand_of}
use Rattle.command_line.specs.Asking.{Asks, AsksBy, MaySayNumber, SaysNumber}
use Rattle.command_line.specs.CommandLine.{casdisk_app, subcommand_in}
use Rattle.command_line.specs.declared.request.Asked.{Asked}

-- a number that was read is what the option says
pub says_number : (G : Text → Result ℕ ParseIntError → Type 0) (o : Option Text) (name : Text) (rows : List Row) (n : ℕ)
    → o ≡ one_of name rows
    → ((u : Text) (x : Result ℕ ParseIntError) → G u x → ParsesUnsigned 64 10 u x)
    → (o ≡ None → Some n ≡ None) → ((t : Text) → o ≡ Some t → ReadsOne G t (Some n)) → SaysNumber name rows n
says_number G None name rows n is only none value = let bad : Some n ≡ None = none refl in absurd cc
says_number G (Some t) name rows n is only none value = (t, sym is, only t (Ok n) (value t refl))

-- where one was read
pub says_it : (G : Text → Result ℕ ParseIntError → Type 0) (o : Option Text) (name : Text) (rows : List Row)
    (r : Option ℕ) → o ≡ one_of name rows
    → ((u : Text) (x : Result ℕ ParseIntError) → G u x → ParsesUnsigned 64 10 u x)
    → (o ≡ None → r ≡ None) → ((t : Text) → o ≡ Some t → ReadsOne G t r) → IfSome r (SaysNumber name rows)
says_it G o name rows None is only none value = tt
says_it G o name rows (Some n) is only none value = says_number G o name rows n is only none value

-- what is read of a text is the number that it says
pub same_number : (G : Text → Result ℕ ParseIntError → Type 0) (t : Text) (r : Option ℕ)
    → ((x : Result ℕ ParseIntError) → G t x → ParsesUnsigned 64 10 t x) → ReadsOne G t r
    → (n : ℕ) → ParsesUnsigned {E = ParseIntError} 64 10 t (Ok n) → r ≡ Some n
same_number G t (Some v) only reads n says = let read = only (Ok v) reads in ap Some (read.1 ∙ sym says.1)
same_number G t None only reads n says = absurd (only (Err reads.0) reads.1 says.0)

-- the number that an option says is the one that is read
pub reads_it : (G : Text → Result ℕ ParseIntError → Type 0) (o : Option Text) (name : Text) (rows : List Row)
    (r : Option ℕ) → o ≡ one_of name rows
    → ((u : Text) (x : Result ℕ ParseIntError) → G u x → ParsesUnsigned 64 10 u x)
    → ((t : Text) → o ≡ Some t → ReadsOne G t r)
    → (n : ℕ) → SaysNumber name rows n → r ≡ Some n
reads_it G o name rows r is only value n says =
    same_number G says.0 r (λ x. only says.0 x) (value says.0 (is ∙ says.1)) n says.2

-- a number that may be said
pub may_say : (name : Text) (rows : List Row) (r : Option ℕ) → IfSome r (SaysNumber name rows)
    → ((n : ℕ) → SaysNumber name rows n → r ≡ Some n) → MaySayNumber name rows r
may_say name rows None says only = λ n h. (let bad : None ≡ Some n = only n h in absurd cc)
may_say name rows (Some m) says only = says

-- none is said where none was read
pub says_none : (name : Text) (rows : List Row) → ((n : ℕ) → SaysNumber name rows n → None ≡ Some n)
    → (n : ℕ) → SaysNumber name rows n → ⊥
says_none name rows only n h = let bad : None ≡ Some n = only n h in cc

-- a command's name and its matches, from both parts
pub both_parts : {X : Type 0} (s : Option X) (g : X → Text) (h : X → List Row) (name : Text) (rows : List Row)
    → option_map g s ≡ Some name
    → option_map (λ (p : Text × List Row). p.1) (option_map {U = Text × List Row} (λ b. (g b, h b)) s) ≡ Some rows
    → option_map {U = Text × List Row} (λ b. (g b, h b)) s ≡ Some (name, rows)
both_parts None g h name rows p q = absurd cc
both_parts (Some b) g h name rows p q =
    let p' : g b ≡ name = cc in
    let q' : h b ≡ rows = cc in
    ap (λ n. Some (n, h b)) p' ∙ ap (λ r. Some (name, r)) q'

-- clap's definitions give the matches of the program's commands
pub casdisk_is_simple : is_simple casdisk_app ≡ true
unfolding clap_on_literals
casdisk_is_simple = refl

-- nor has an option a rule on another one
pub casdisk_is_free : is_simple_and_free casdisk_app ≡ true
unfolding clap_on_literals
casdisk_is_free = refl

pub named : (words : List Text) (name : Text) (rows : List Row) → subcommand_of casdisk_app words ≡ Some (name, rows)
    → subcommand_in words ≡ Some (name, rows)
unfolding subcommand_in
named words name rows e = e

-- what a command's options ask for is what the words ask for
pub by_command : (words : List Text) (name : Text) (rows : List Row) → subcommand_in words ≡ Some (name, rows)
    → (a : Asked) → AsksBy name rows a → Asks words a
by_command words name rows e (Asked.Run shown from check flush why file) h = (name, rows, e, h)
by_command words name rows e (Asked.Check follow area quiet json why file) h = (name, rows, e, h)
by_command words name rows e (Asked.Explain follow area json why file) h = (name, rows, e, h)
by_command words name rows e (Asked.Certify delayed json why trace history) h = (name, rows, e, h)
by_command words name rows e (Asked.Refute json why trace refutation) h = (name, rows, e, h)
by_command words name rows e (Asked.Observe witness refutation steps json why trace) h = (name, rows, e, h)
by_command words name rows e (Asked.Tell color json why file) h = (name, rows, e, h)
by_command words name rows e (Asked.Draw from to blocks area trace why file) h = (name, rows, e, h)
by_command words name rows e (Asked.Page why file) h = (name, rows, e, h)
by_command words name rows e (Asked.Random seed lines config like) h = (name, rows, e, h)
by_command words name rows e (Asked.Shrink why script) h = (name, rows, e, h)
by_command words name rows e (Asked.Race r crash seed seeds bias trace quiet json why) h = (name, rows, e, h)
by_command words name rows e (Asked.Show text) h = absurd h
