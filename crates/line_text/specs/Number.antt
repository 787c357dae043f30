-- Numbers as words.
use Rattle.std.specs.Prelude.{ℕ, ◌^◌, List, Option, Some, None, nat_lt, ◌&&◌, if◌then◌else◌, decimal}
use Rattle.std.specs.Str.{bytes_eq}
use Rattle.std.specs.Str.Parse.{digits_value}

-- the number below 2 ^ bits that the word spells: its digits' value, where that is spelled so
unfoldable pub number_in : ℕ → List ℕ → Option ℕ
number_in bits word =
    let n = digits_value 10 word in
    if bytes_eq (decimal n) word && nat_lt n (2 ^ bits) then Some n else None
