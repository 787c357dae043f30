use Rattle.std.proofs.Common.{List, [], add-one, ap, arith, drop, sym, take, ℕ, ◌*◌, ◌+◌, ◌++◌, ◌-◌, ◌∙◌, ◌∷◌, ◌≡◌}
use Rattle.block_array.specs.Blocks.{contents_of}
use Rattle.block_array.proofs.Contents.{contents_more}
use Rattle.block_exec.specs.Bytes.{first_blocks, data_at}
use Rattle.step_core.proofs.controller.data.boxed.Goals as goal

pub loop-place-preserved : goal.loop-place-preserved
loop-place-preserved c =
    let bytes : List ℕ = c.args.payload.now in
    let place : ℕ = c.loop-place.place in
    let size : 512 * place + 512 - 512 * place ≡ 512 = omega arith in
    let value : c.copy_from_slice.new.self ≡ data_at bytes place = c.copy_from_slice.ensures.after
    ∙ ap (λ n. take n (drop (512 * place) bytes)) size in
    ap contents_of c.in_ok-push.ensures.items ∙ contents_more _ _ ∙ (λ z. c.loop-place.invariant z ++ value z ∷ [])
    ∙ ap (λ n. first_blocks n bytes) (sym (add-one place))
