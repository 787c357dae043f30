-- What a reader of words promises, from the value that it answers.
use Rattle.std.proofs.Common.{◌≡◌, ℕ, List, None, Some, sym, ◌∙◌}
use Rattle.std.specs.Prelude.{Option, Result, Ok, Err, IfOk, IfSome, option_map}

-- the bytes that are read have this spelling, and all bytes with this spelling are read
abbrev pub IsSpelling : (List ℕ → Type 0) → (List ℕ → List ℕ) → List ℕ → Option (List ℕ) → Type 0
IsSpelling Fits spelling word value =
    ((bytes : List ℕ) → value ≡ Some bytes → word ≡ spelling bytes)
    × ((bytes : List ℕ) → Fits bytes → word ≡ spelling bytes → value ≡ Some bytes)

module _ (Fits : List ℕ → Type 0) (spelling : List ℕ → List ℕ) (word : List ℕ) (value : Option (List ℕ))
    (law : IsSpelling Fits spelling word value) where
  -- without memory
  pub spelled : (r : Option (List ℕ)) → r ≡ value
      → record {
        value : r ≡ value;
        found : IfSome r (λ bytes. word ≡ spelling bytes);
        only : (bytes : List ℕ) → Fits bytes → word ≡ spelling bytes → r ≡ Some bytes;
      }
  spelled None e = record { value = e; found = tt; only = λ bytes fits h. e ∙ law.1 bytes fits h }
  spelled (Some read) e = record {
    value = e;
    found = law.0 read (sym e);
    only = λ bytes fits h. e ∙ law.1 bytes fits h;
  }

  -- unless memory runs out
  pub spelled_or_err : {X E : Type 0} (items : X → List ℕ) (r : Result (Option X) E)
      → IfOk r (λ read. option_map items read ≡ value)
      → record {
        value : IfOk r (λ read. option_map items read ≡ value);
        found : IfOk r (λ read. IfSome read (λ v. word ≡ spelling (items v)));
        only : (bytes : List ℕ) → Fits bytes → word ≡ spelling bytes
            → IfOk r (λ read. option_map items read ≡ Some bytes);
      }
  spelled_or_err items (Err x) e = record { value = tt; found = tt; only = λ bytes fits h. tt }
  spelled_or_err items (Ok None) e = record { value = e; found = tt; only = λ bytes fits h. e ∙ law.1 bytes fits h }
  spelled_or_err items (Ok (Some v)) e =
      record { value = e; found = law.0 (items v) (sym e); only = λ bytes fits h. e ∙ law.1 bytes fits h }

-- two lists that are read of one word are equal
pub spelling_one : {word : Option (List ℕ)} {a b : List ℕ} → word ≡ Some a → word ≡ Some b → a ≡ b
spelling_one p q = cc (p, q)
