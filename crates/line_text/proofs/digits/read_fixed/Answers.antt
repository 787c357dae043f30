use Rattle.std.proofs.Common.{◌≡◌, ℕ, List, length, None, Some, true, sym, ◌∙◌}
use Rattle.std.specs.Prelude.{Option, Result, Ok, Err, IfSome, nat_lt}
use Rattle.std.specs.List.{list_all}
use Rattle.std.specs.Result.{result_ok}
use Rattle.hex.specs.Hex.{IsBytes, encode_upper, decode_sized}
use Rattle.hex.specs.declared.error.FromHexError.{FromHexError}
use Rattle.line_text.specs.Digits.{bytes_in, fixed_in}
use Rattle.line_text.proofs.Spelling.{spelled}
use Rattle.line_text.proofs.HexLaws.{fixed_law, fixed_lower, fixed_decoded, fixed_refused}
use Rattle.line_text.proofs.digits.read_fixed.Goals as goal

promised : (n : ℕ) (word : List ℕ) (r : Option (List ℕ)) → r ≡ fixed_in n (bytes_in word)
    → record {
      value : r ≡ fixed_in n (bytes_in word);
      found : IfSome r (λ bytes. word ≡ encode_upper bytes);
      only : (bytes : List ℕ) → IsBytes bytes → length bytes ≡ n → word ≡ encode_upper bytes → r ≡ Some bytes;
    }
promised n word r e =
    let all = spelled (λ bytes. IsBytes bytes × (length bytes ≡ n)) encode_upper word (fixed_in n (bytes_in word))
    (fixed_law n word) r e in
    record { value = all.value; found = all.found; only = λ bytes fits long h. all.only bytes (fits, long) h }

pub returns-then-not-is_upper : goal.returns-then-not-is_upper
returns-then-not-is_upper g c =
    promised g.row.N c.args.word.now None
    (sym (fixed_lower g.row.N _ (sym c.is_upper.ensures ∙ c.if-not-is_upper.true)))

decoded : (n : ℕ) (word : List ℕ) (r : Result (List ℕ) FromHexError) → list_all (λ c. nat_lt c 97) word ≡ true
    → decode_sized word n ≡ r → fixed_in n (bytes_in word) ≡ result_ok r
decoded n word (Ok bytes) upper e = fixed_decoded n word bytes upper e
decoded n word (Err f) upper e = fixed_refused n word f e

pub returns : goal.returns
returns g c =
    promised g.row.N c.args.word.now c.ok.result
    (c.ok.ensures.value ∙ sym
    (decoded g.row.N _ _ (sym c.is_upper.ensures ∙ c.if-not-is_upper.false) (sym c.from_hex.ensures)))
