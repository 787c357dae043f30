use Rattle.std.proofs.Common.{◌≡◌, ◌%◌, List, ℕ, drop, Some, None, length, sym, ap, ◌∙◌, arith}
use Rattle.std.specs.Prelude.{Option, Result, Ok, Err, option_map, IfOk, IfSome}
use Rattle.std.specs.Str.{bytes_eq}
use Rattle.line_text.specs.Digits.{bytes_in}
use Rattle.hex.specs.Hex.{IsBytes}
use Rattle.line_text.specs.Data.{data_text, data_in}
use Rattle.line_text.proofs.Spelling.{spelled, spelled_or_err}
use Rattle.line_text.proofs.DataLaws.{data_law}
use Rattle.line_text.proofs.DataReading.{data_none, data_blocks, data_odd, whole_none, whole_some}
use Rattle.line_text.proofs.data.read_data.Goals as goal

promised : (word : List ℕ) (r : Option (List ℕ)) → r ≡ data_in 512 word
    → record {
      value : r ≡ data_in 512 word;
      found : IfSome r (λ bytes. word ≡ data_text 512 bytes);
      only : (bytes : List ℕ) → IsBytes bytes → word ≡ data_text 512 bytes → r ≡ Some bytes;
    }
promised word r e = spelled IsBytes (data_text 512) word (data_in 512 word) (data_law 512 word (omega arith)) r e

pub returns-then-eq : goal.returns-then-eq
returns-then-eq c =
    let same = ap (bytes_eq c.args.word.now) (sym c.as_slice.ensures) ∙ sym c.eq.ensures ∙ c.if-eq.true in
    promised c.args.word.now (Some c.new.result.items)
    (ap Some c.new.ensures.items ∙ sym (data_none 512 c.args.word.now same))

if_ok_by : {X E Y : Type 0} (r : Result X E) (f : X → Y) (a b : Y) → a ≡ b → IfOk r (λ x. f x ≡ a)
    → IfOk r (λ x. f x ≡ b)
if_ok_by (Ok x) f a b e h = h ∙ e
if_ok_by (Err x) f a b e h = tt

pub returns-in_default : goal.returns-in_default
returns-in_default c =
    let other = ap (bytes_eq c.args.word.now) (sym c.as_slice.ensures) ∙ sym c.eq.ensures ∙ c.if-eq.false in
    spelled_or_err IsBytes (data_text 512) c.args.word.now _ (data_law 512 c.args.word.now (omega arith)) (λ v. v.items)
    c.read_blocks.result
    (if_ok_by c.read_blocks.result _ _ _ (sym (data_blocks 512 c.args.word.now other c.in_default.ensures.cases))
    c.read_blocks.ensures)

pub returns-in_default-2 : goal.returns-in_default-2
returns-in_default-2 c =
    let other = ap (bytes_eq c.args.word.now) (sym c.as_slice.ensures) ∙ sym c.eq.ensures ∙ c.if-eq.false in
    let read : bytes_in (drop 1 c.args.word.now) ≡ None = ap bytes_in (sym c.in-Some.ensures.cases.1)
    ∙ sym c.in_ok-bytes.ensures.value ∙ ap (option_map (λ v. v.items)) c.in_default-2.is in
    promised c.args.word.now None (sym (data_odd 512 c.args.word.now None other c.in-Some.ensures.cases.0 read))

pub returns-then-len-eq0 : goal.returns-then-len-eq0
returns-then-len-eq0 c =
    let other = ap (bytes_eq c.args.word.now) (sym c.as_slice.ensures) ∙ sym c.eq.ensures ∙ c.if-eq.false in
    let bytes = c.in-Some-2.bytes in
    let read : bytes_in (drop 1 c.args.word.now) ≡ Some bytes.items = ap bytes_in (sym c.in-Some.ensures.cases.1)
    ∙ sym c.in_ok-bytes.ensures.value ∙ ap (option_map (λ v. v.items)) c.in-Some-2.is in
    let whole : length bytes.items % 512 ≡ 0 = ap (λ n. n % 512) (sym bytes.ok.0 ∙ sym c.len.ensures)
    ∙ c.if-len-eq0.true in
    promised c.args.word.now None
    (sym (data_odd 512 c.args.word.now (Some bytes.items) other c.in-Some.ensures.cases.0 read
    ∙ whole_none 512 bytes.items whole))

pub returns : goal.returns
returns c =
    let other = ap (bytes_eq c.args.word.now) (sym c.as_slice.ensures) ∙ sym c.eq.ensures ∙ c.if-eq.false in
    let bytes = c.in-Some-2.bytes in
    let read : bytes_in (drop 1 c.args.word.now) ≡ Some bytes.items = ap bytes_in (sym c.in-Some.ensures.cases.1)
    ∙ sym c.in_ok-bytes.ensures.value ∙ ap (option_map (λ v. v.items)) c.in-Some-2.is in
    promised c.args.word.now (Some bytes.items)
    (sym (data_odd 512 c.args.word.now (Some bytes.items) other c.in-Some.ensures.cases.0 read
    ∙ whole_some 512 bytes.items (λ h. c.if-len-eq0.false (ap (λ n. n % 512) (c.len.ensures ∙ bytes.ok.0) ∙ h))))
