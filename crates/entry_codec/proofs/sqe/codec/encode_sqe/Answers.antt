use Rattle.std.proofs.Common.{ap, arith, subst, sym, ◌++◌, ◌<◌, ◌^◌, ◌∙◌}
use Rattle.std.proofs.lemmas.List.{take_all}
use Rattle.byteorder.specs.Endian.{little_bytes}
use Rattle.nvme_model.specs.EntryBytes.{sqe_fields}
use Rattle.entry_codec.specs.Sqe.{FitsSqe, sqe_bytes}
use Rattle.entry_codec.proofs.SqeLemmas.{flags-fields, sqe_bytes-sqe_fields, sqe_fields-sqe_bytes}
use Rattle.entry_codec.proofs.sqe.codec.encode_sqe.Goals as goal

-- the bytes are written one field after another
written : goal.returns-clause-value
unfolding sqe_bytes
written c =
    let s = c.sqe.inside in
    let with_opcode = c.put_u8.ensures.front in
    let with_flags = c.put_u8-2.ensures.front ∙ ap (λ front. front ++ little_bytes 1 s.flags) with_opcode
    ∙ ap (λ n. little_bytes 1 s.opcode ++ little_bytes 1 n) (sym (flags-fields s.flags)) in
    let with_cid = c.put_u16.ensures.front ∙ ap (λ front. front ++ little_bytes 2 s.cid) with_flags in
    let with_nsid = c.put_u32.ensures.front ∙ ap (λ front. front ++ little_bytes 4 s.nsid) with_cid in
    let with_cdw2 = c.put_u32-2.ensures.front ∙ ap (λ front. front ++ little_bytes 4 s.cdw2) with_nsid in
    let with_cdw3 = c.put_u32-3.ensures.front ∙ ap (λ front. front ++ little_bytes 4 s.cdw3) with_cdw2 in
    let with_mptr = c.put_u64.ensures.front ∙ ap (λ front. front ++ little_bytes 8 s.mptr) with_cdw3 in
    let with_dptr = c.put_u128.ensures.front ∙ ap (λ front. front ++ little_bytes 16 s.dptr) with_mptr in
    let with_cdw10 = c.put_u32-4.ensures.front ∙ ap (λ front. front ++ little_bytes 4 s.cdw10) with_dptr in
    let with_cdw11 = c.put_u32-5.ensures.front ∙ ap (λ front. front ++ little_bytes 4 s.cdw11) with_cdw10 in
    let with_cdw12 = c.put_u32-6.ensures.front ∙ ap (λ front. front ++ little_bytes 4 s.cdw12) with_cdw11 in
    let with_cdw13 = c.put_u32-7.ensures.front ∙ ap (λ front. front ++ little_bytes 4 s.cdw13) with_cdw12 in
    let with_cdw14 = c.put_u32-8.ensures.front ∙ ap (λ front. front ++ little_bytes 4 s.cdw14) with_cdw13 in
    let with_cdw15 = c.put_u32-9.ensures.front ∙ ap (λ front. front ++ little_bytes 4 s.cdw15) with_cdw14 in
    sym (take_all 64 c.put_u32-9.new.bytes (omega arith)) ∙ with_cdw15 ∙ ap sqe_bytes c.sqe.view_is

pub returns-clause-value : goal.returns-clause-value
returns-clause-value c = written c

pub returns-clause-is : goal.returns-clause-is
returns-clause-is c =
    let byte : c.sqe.inside.flags < 2 ^ 8 = c.put_u8-2.ensures.fits in (
      omega arith,
      ap sqe_fields (written c) ∙ sqe_fields-sqe_bytes c.args.sqe.now (subst FitsSqe c.sqe.view_is record {
        opcode = omega arith;
        fuse = omega arith;
        reserved = omega arith;
        psdt = omega arith;
        cid = c.put_u16.ensures.fits;
        nsid = c.put_u32.ensures.fits;
        cdw2 = c.put_u32-2.ensures.fits;
        cdw3 = c.put_u32-3.ensures.fits;
        mptr = c.put_u64.ensures.fits;
        dptr = c.put_u128.ensures.fits;
        cdw10 = c.put_u32-4.ensures.fits;
        cdw11 = c.put_u32-5.ensures.fits;
        cdw12 = c.put_u32-6.ensures.fits;
        cdw13 = c.put_u32-7.ensures.fits;
        cdw14 = c.put_u32-8.ensures.fits;
        cdw15 = omega arith;
      }),
    )

pub returns-clause-only : goal.returns-clause-only
returns-clause-only c = λ bytes is each. sym (sqe_bytes-sqe_fields bytes is.0 each) ∙ ap sqe_bytes is.1
    ∙ sym (written c)
