use Rattle.std.proofs.Common.{List, Option, ap, ap₂, sym, ℕ, ◌∙◌, ◌≡◌, true, false}
use Rattle.std.specs.Str.{bytes_eq}
use Rattle.nvme_model.specs.Array.{zeros}
use Rattle.nvme_model.specs.EntryBytes.{slba, sqe_fields}
use Rattle.nvme_model.specs.Slots.{Name, is_pair_on_one, name_of, swap_by}
use Rattle.slot_check.proofs.Batches.{free_first, free_second}
use Rattle.slot_check.proofs.batch.swap_of.Goals as goal

pub returns-then-is_free : goal.returns-then-is_free
returns-then-is_free c =
    let lba : c.slba-lba.result ≡ slba (sqe_fields c.args.a.now.entry) =
    c.slba-lba.ensures.value ∙ ap slba c.decode_sqe.ensures.value in
    let name : c.name_of.result ≡ name_of c.args.b.now.payload =
    c.name_of.ensures.value ∙ ap name_of c.as_slice-then-is_free.ensures in
    let pair : is_pair_on_one c.args.a.now c.args.b.now ≡ true = sym c.if-not-is_pair_on_one.ensures.value in
    let free : bytes_eq c.args.a.now.payload zeros ≡ true =
    ap (λ (x : List ℕ). bytes_eq x zeros) (sym c.as_slice.ensures) ∙ sym c.if-is_free.ensures.value in
    record {
      value = c.swap_by.ensures.value
          ∙ ap₂ (λ (x : ℕ) (y : Option Name). swap_by true c.args.queue c.args.number x y) lba name
          ∙ free_first c.args.queue c.args.number c.args.a.now c.args.b.now pair free;
    }

pub returns-then-is_free-2 : goal.returns-then-is_free-2
returns-then-is_free-2 c =
    let lba : c.slba-lba.result ≡ slba (sqe_fields c.args.a.now.entry) =
    c.slba-lba.ensures.value ∙ ap slba c.decode_sqe.ensures.value in
    let name : c.name_of-then-is_free-2.result ≡ name_of c.args.a.now.payload =
    c.name_of-then-is_free-2.ensures.value ∙ ap name_of c.as_slice-then-is_free-2.ensures in
    let pair : is_pair_on_one c.args.a.now c.args.b.now ≡ true = sym c.if-not-is_pair_on_one.ensures.value in
    let held : bytes_eq c.args.a.now.payload zeros ≡ false =
    ap (λ (x : List ℕ). bytes_eq x zeros) (sym c.as_slice.ensures) ∙ sym c.if-is_free.ensures.value in
    let free : bytes_eq c.args.b.now.payload zeros ≡ true =
    ap (λ (x : List ℕ). bytes_eq x zeros) (sym c.as_slice-2.ensures) ∙ sym c.if-is_free-2.ensures.value in
    record {
      value = c.swap_by-then-is_free-2.ensures.value
          ∙ ap₂ (λ (x : ℕ) (y : Option Name). swap_by false c.args.queue c.args.number x y) lba name
          ∙ free_second c.args.queue c.args.number c.args.a.now c.args.b.now pair held free;
    }
