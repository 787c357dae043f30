use Rattle.std.proofs.Common.{◌≡◌, ◌++◌, Some, true, false, sym, ap, ◌∙◌, arith}
use Rattle.std.specs.Prelude.{option_map}
use Rattle.line_text.specs.Digits.{bytes_in}
use Rattle.line_text.proofs.DataReading.{block_nothing, block_from_other, block_from_many}
use Rattle.line_text.proofs.HexLaws.{two_by_one}
use Rattle.line_text.proofs.data.read_block.Goals as goal

pub returns-in_default : goal.returns-in_default
returns-in_default c = block_nothing 512 _
    (sym c.in_ok-bytes.ensures.value ∙ ap (option_map (λ v. v.items)) c.in_default.is)

pub returns-then-len-ne-BLOCK : goal.returns-then-len-ne-BLOCK
returns-then-len-ne-BLOCK c =
    let bytes = c.in-Some.bytes in
    let read : bytes_in c.args.text.now ≡ Some bytes.items = sym c.in_ok-bytes.ensures.value
    ∙ ap (option_map (λ v. v.items)) c.in-Some.is in
    block_from_other 512 _ bytes.items read (λ h. c.if-text-eq2.false (two_by_one _ bytes.items read h))
    (λ h. omega (arith, bytes.ok.0, c.len.ensures))

pub returns-then-all_same : goal.returns-then-all_same
returns-then-all_same c =
    let bytes = c.in-Some.bytes in
    let read : bytes_in c.args.text.now ≡ Some bytes.items = sym c.in_ok-bytes.ensures.value
    ∙ ap (option_map (λ v. v.items)) c.in-Some.is in
    let e = rw c.as_slice.ensures.value at c.all_same.ensures in
    block_from_many 512 _ bytes.items true read (λ h. c.if-text-eq2.false (two_by_one _ bytes.items read h))
    (omega (arith, bytes.ok.0, c.len.ensures)) (sym e ∙ c.if-all_same.true)

pub returns : goal.returns
returns c =
    let bytes = c.in-Some.bytes in
    let read : bytes_in c.args.text.now ≡ Some bytes.items = sym c.in_ok-bytes.ensures.value
    ∙ ap (option_map (λ v. v.items)) c.in-Some.is in
    let e = rw c.as_slice.ensures.value at c.all_same.ensures in (
      bytes.items,
      block_from_many 512 _ bytes.items false read (λ h. c.if-text-eq2.false (two_by_one _ bytes.items read h))
          (omega (arith, bytes.ok.0, c.len.ensures)) (sym e ∙ c.if-all_same.false),
      c.in_ok-extend_from_slice.ensures.items ∙ ap (λ l. c.args.out.now.items ++ l) c.as_slice-2.ensures.value,
    )
