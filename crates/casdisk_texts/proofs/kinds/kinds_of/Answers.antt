use Rattle.std.proofs.Common.{rules, ◌≡◌, option_map, ◌==◌, [], Some, None, sym, ap, ◌∙◌}
use Rattle.std.specs.List.{slice_split}
use Rattle.bitflags.specs.Sets.{find_name}
use Rattle.casdisk_texts.specs.Kinds.{kinds_after, kinds_table}
use Rattle.casdisk_texts.proofs.KindsLemmas.{first_name, last_name, known_name, unknown_name, only_name}
use Rattle.casdisk_texts.proofs.kinds.kinds_of.Goals as goal

-- src/kinds.rt:48:5
pub loop-name-init : goal.loop-name-init
loop-name-init c = (
  c.utf8.text,
  ap (λ k. kinds_after k (slice_split (λ b. b == 44) c.args.text.now)) (c.empty-kinds.ensures tt),
)

-- src/kinds.rt:49:22
pub returns-in_err-from_name : goal.returns-in_err-from_name
returns-in_err-from_name c =
    let first = (first_name c.loop-name.rest.now c.split_once.result c.split_once.ensures.cases _ c.in-Some.is).0 in
    let found : find_name kinds_table c.in-Some.name.now ≡ None = sym (c.from_name.ensures tt)
    ∙ ap (option_map (λ k. k.0)) (c.in_err-from_name.was) in
    let none = unknown_name c.loop-name.kinds.0 c.in-Some.name.now (slice_split (λ b. b == 44) c.in-Some.after.now)
    found in
    record {
      value = ap (option_map (λ k. k.0)) c.from_residual.ensures ∙ sym none
          ∙ sym (ap (kinds_after c.loop-name.kinds.0) first) ∙ c.loop-name.invariant.1;
    }

-- src/kinds.rt:48:5
pub loop-name-smaller : goal.loop-name-smaller
loop-name-smaller c = (first_name c.loop-name.rest.now c.split_once.result c.split_once.ensures.cases _ c.in-Some.is).1

-- src/kinds.rt:48:5
pub loop-name-preserved : goal.loop-name-preserved
loop-name-preserved c =
    let first = (first_name c.loop-name.rest.now c.split_once.result c.split_once.ensures.cases _ c.in-Some.is).0 in
    let found : find_name kinds_table c.in-Some.name.now ≡ Some c.in_ok-from_name.field-0.0 =
    sym (c.from_name.ensures tt) ∙ ap (option_map (λ k. k.0)) (c.in_ok-from_name.was) in
    let names = slice_split (λ b. b == 44) c.in-Some.after.now in
    let known = known_name c.loop-name.kinds.0 c.in-Some.name.now names _ found in (
      search rules,
      ap (λ k. kinds_after k names) (c.insert.ensures tt) ∙ sym known
          ∙ sym (ap (kinds_after c.loop-name.kinds.0) first) ∙ c.loop-name.invariant.1,
    )

-- src/kinds.rt:52:18
pub returns-in_err-from_name-2 : goal.returns-in_err-from_name-2
returns-in_err-from_name-2 c =
    let last = last_name c.loop-name.rest.now c.split_once.result c.split_once.ensures.cases c.in_default.is in
    let found : find_name kinds_table c.loop-name.rest.now ≡ None = sym (c.from_name-2.ensures tt)
    ∙ ap (option_map (λ k. k.0)) (c.in_err-from_name-2.was) in
    let none = unknown_name c.loop-name.kinds.0 c.loop-name.rest.now [] found in
    record {
      value = ap (option_map (λ k. k.0)) c.from_residual-in_err-from_name-2.ensures ∙ sym none
          ∙ sym (ap (kinds_after c.loop-name.kinds.0) last) ∙ c.loop-name.invariant.1;
    }

-- src/kinds.rt:43:1
pub returns : goal.returns
returns c =
    let last = last_name c.loop-name.rest.now c.split_once.result c.split_once.ensures.cases c.in_default.is in
    let found : find_name kinds_table c.loop-name.rest.now ≡ Some c.in_ok-from_name-2.field-0.0 =
    sym (c.from_name-2.ensures tt) ∙ ap (option_map (λ k. k.0)) (c.in_ok-from_name-2.was) in
    let known = only_name c.loop-name.kinds.0 c.loop-name.rest.now _ found in
    record {
      value = ap Some (c.insert-2.ensures tt) ∙ sym known ∙ sym (ap (kinds_after c.loop-name.kinds.0) last)
          ∙ c.loop-name.invariant.1;
    }
