-- What is said of a command line that is refused.
use Rattle.std.proofs.Common.{◌≡◌, ◌∙◌, ◌⊎◌, Bool, true, false, List, Option, Some, None, inl, inr, refl, subst, sym}
use Rattle.std.specs.Prelude.{option_map}
use Rattle.clap.specs.Words.{HasKind, IsAmong, Row, Text, fault_of, kind_of, subcommand_of, takes}
use Rattle.clap.specs.declared.error.Error.{Error}
use Rattle.clap.specs.declared.error.kind.ErrorKind.{ErrorKind}
use Rattle.command_line.specs.Asking.{AreRefused, Asks, HasCause, IsNoneBy, IsRefusedBy, IsShowing, IsShownBy, IsToldBy}
use Rattle.command_line.specs.CommandLine.{casdisk_app, faults_in, are_words_taken, subcommand_in}
use Rattle.command_line.specs.declared.request.Asked.{Asked}
use Rattle.command_line.specs.declared.request.UsageFault.{UsageFault}

-- what may be refused for this may be refused
pub refused_for : (P : Type 0) (f : UsageFault) → P → HasCause P f
refused_for P (UsageFault.Text text) h = h
refused_for P UsageFault.NoMemory h = tt

-- what is refused for this is refused for what follows from it
pub refused_further : (P Q : Type 0) (f : UsageFault) → (P → Q) → HasCause P f → HasCause Q f
refused_further P Q (UsageFault.Text text) g h = g h
refused_further P Q UsageFault.NoMemory g h = tt

module _ (words : List Text) where
  -- the words whose options are refused
  pub by_options : (name : Text) (rows : List Row) → subcommand_in words ≡ Some (name, rows) → (f : UsageFault)
      → IsRefusedBy name rows f → AreRefused words f
  by_options name rows e (UsageFault.Text text) h = inr (inr (name, rows, e, h))
  by_options name rows e UsageFault.NoMemory h = tt

  -- those that name no command
  pub by_no_command : subcommand_in words ≡ None → (f : UsageFault) → AreRefused words f
  by_no_command e (UsageFault.Text text) = inr (inl e)
  by_no_command e UsageFault.NoMemory = tt

  -- those that are no command line
  pub by_words : IsNoneBy (λ kind. IsShowing kind → ⊥) words → (f : UsageFault) → AreRefused words f
  by_words e (UsageFault.Text text) = inl e
  by_words e UsageFault.NoMemory = tt

  pub names_none : subcommand_of casdisk_app words ≡ None → subcommand_in words ≡ None
  unfolding subcommand_in
  names_none e = e

  -- an error that isn't want of memory is of a kind that clap has for the words
  pub gives : (P : ErrorKind → Type 0) (e : Error) (kind : ErrorKind) → kind ≡ kind_of e
      → (kind ≡ ErrorKind.OutOfMemory → ⊥) → P kind → are_words_taken words ≡ false
      → HasKind (fault_of casdisk_app words) e → IsNoneBy P words
  unfolding faults_in
  gives P e kind is other holds none (inl want) = absurd (other (is ∙ want))
  gives P e kind is other holds none (inr among) =
      let Q : ErrorKind → Type 0 = λ k. IsAmong k (fault_of casdisk_app words) in
      (none, (kind, subst Q (sym is) among, holds))

  pub taken : are_words_taken words ≡ takes casdisk_app words
  unfolding are_words_taken
  taken = refl

-- no
pub not_true : (b : Bool) (P : Type 0) → (b ≡ true → P) → (P → ⊥) → b ≡ false
not_true false P f n = refl
not_true true P f n = absurd (n (f refl))

-- a text that is asked for isn't want of memory
pub shown : (k : ErrorKind) → (k ≡ ErrorKind.DisplayHelp) ⊎ (k ≡ ErrorKind.DisplayVersion) → k ≡ ErrorKind.OutOfMemory
    → ⊥
shown k (inl h) o = let e : ErrorKind.DisplayHelp ≡ ErrorKind.OutOfMemory = sym h ∙ o in absurd cc
shown k (inr h) o = let e : ErrorKind.DisplayVersion ≡ ErrorKind.OutOfMemory = sym h ∙ o in absurd cc

module _ (words : List Text) (e : Error) (none : are_words_taken words ≡ true → kind_of e ≡ ErrorKind.OutOfMemory)
    (kinds : HasKind (fault_of casdisk_app words) e) where
  -- what is told where clap makes this error is told of words that may be refused
  pub by_error : (f : UsageFault) → IsToldBy (kind_of e) f → AreRefused words f
  by_error (UsageFault.Text text) h =
      by_words words
      (gives words (λ k. IsShowing k → ⊥) e (kind_of e) refl h.0 h.1
      (not_true (are_words_taken words) (kind_of e ≡ ErrorKind.OutOfMemory) none h.0) kinds) (UsageFault.Text text)
  by_error UsageFault.NoMemory h = tt

  -- what is shown where clap makes this error is asked for by the words
  pub by_showing : (a : Asked) → IsShownBy (kind_of e) a → Asks words a
  by_showing (Asked.Show text) h =
      gives words IsShowing e (kind_of e) refl (shown _ h) h
      (not_true (are_words_taken words) (kind_of e ≡ ErrorKind.OutOfMemory) none (shown _ h)) kinds
  by_showing (Asked.Run shown from check flush why file) h = absurd h
  by_showing (Asked.Check follow area quiet json why file) h = absurd h
  by_showing (Asked.Explain follow area json why file) h = absurd h
  by_showing (Asked.Certify delayed json why trace history) h = absurd h
  by_showing (Asked.Refute json why trace refutation) h = absurd h
  by_showing (Asked.Observe witness refutation steps json why trace) h = absurd h
  by_showing (Asked.Tell color json why file) h = absurd h
  by_showing (Asked.Draw from to blocks area trace why file) h = absurd h
  by_showing (Asked.Page why file) h = absurd h
  by_showing (Asked.Random seed lines config like) h = absurd h
  by_showing (Asked.Shrink why script) h = absurd h
  by_showing (Asked.Race race crash seed seeds bias trace quiet json why) h = absurd h

-- nothing has no parts
pub no_parts : {X : Type 0} (s : Option X) (g : X → Text) (h : X → List Row) → option_map g s ≡ None
    → option_map {U = Text × List Row} (λ b. (g b, h b)) s ≡ None
no_parts None g h e = refl
no_parts (Some b) g h e = absurd cc
