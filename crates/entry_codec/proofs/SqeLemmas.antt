-- The 64 bytes of an entry and its fields.
use Rattle.std.proofs.Common.{List, [], arith, length, refl, sym, drop, ℕ, ◌%◌, ◌*◌, ◌+◌, ◌/◌, ◌≡◌, ◌∙◌}
use Rattle.std.proofs.lemmas.List.{append-nil, drop_all}
use Rattle.byteorder.specs.Endian.{little_bytes}
use Rattle.nvme_model.specs.EntryBytes.{Sqe, field, sqe_fields}
use Rattle.entry_codec.specs.Bytes.{IsBytes}
use Rattle.entry_codec.specs.Sqe.{FitsSqe, flags, sqe_bytes}
use Rattle.entry_codec.proofs.LittleLemmas.{little_bytes-field-append, little_endian-bytes}

-- a byte is its lowest two bits, the next four and the highest two
pub flags-fields : (n : ℕ) → n % 4 + 4 * ((n / 4) % 16) + 64 * (n / 64) ≡ n
flags-fields n = omega arith

-- any 64 bytes are those of their fields
pub sqe_bytes-sqe_fields : (bytes : List ℕ) → length bytes ≡ 64 → IsBytes bytes → sqe_bytes (sqe_fields bytes) ≡ bytes
unfolding sqe_bytes
sqe_bytes-sqe_fields bytes long each =
    let at60 : little_bytes 4 (field 60 4 bytes) ≡ drop 60 bytes =
    sym (append-nil (little_bytes 4 (field 60 4 bytes)))
    ∙ little_bytes-field-append 60 4 bytes [] (omega arith) each (sym (drop_all 64 bytes (omega arith))) in
    let at56 = little_bytes-field-append 56 4 bytes _ (omega arith) each at60 in
    let at52 = little_bytes-field-append 52 4 bytes _ (omega arith) each at56 in
    let at48 = little_bytes-field-append 48 4 bytes _ (omega arith) each at52 in
    let at44 = little_bytes-field-append 44 4 bytes _ (omega arith) each at48 in
    let at40 = little_bytes-field-append 40 4 bytes _ (omega arith) each at44 in
    let at24 = little_bytes-field-append 24 16 bytes _ (omega arith) each at40 in
    let at16 = little_bytes-field-append 16 8 bytes _ (omega arith) each at24 in
    let at12 = little_bytes-field-append 12 4 bytes _ (omega arith) each at16 in
    let at8 = little_bytes-field-append 8 4 bytes _ (omega arith) each at12 in
    let at4 = little_bytes-field-append 4 4 bytes _ (omega arith) each at8 in
    let at2 = little_bytes-field-append 2 2 bytes _ (omega arith) each at4 in
    let at1 = little_bytes-field-append 1 1 bytes _ (omega arith) each at2 in
    let at0 = little_bytes-field-append 0 1 bytes _ (omega arith) each at1 in
    rw (flags-fields (field 1 1 bytes)) at0

-- entries with the same fields are the same
same_sqe : (e d : Sqe) → e.opcode ≡ d.opcode → e.fuse ≡ d.fuse → e.reserved ≡ d.reserved → e.psdt ≡ d.psdt
    → e.cid ≡ d.cid → e.nsid ≡ d.nsid → e.cdw2 ≡ d.cdw2 → e.cdw3 ≡ d.cdw3 → e.mptr ≡ d.mptr → e.dptr ≡ d.dptr
    → e.cdw10 ≡ d.cdw10 → e.cdw11 ≡ d.cdw11 → e.cdw12 ≡ d.cdw12 → e.cdw13 ≡ d.cdw13 → e.cdw14 ≡ d.cdw14
    → e.cdw15 ≡ d.cdw15 → e ≡ d
same_sqe e d opcode fuse reserved psdt cid nsid cdw2 cdw3 mptr dptr cdw10 cdw11 cdw12 cdw13 cdw14 cdw15 =
    rw (opcode, fuse, reserved, psdt, cid, nsid, cdw2, cdw3, mptr, dptr, cdw10, cdw11, cdw12, cdw13, cdw14, cdw15) refl

-- the fields of the bytes of an entry are the entry's
pub sqe_fields-sqe_bytes : (e : Sqe) → FitsSqe e → sqe_fields (sqe_bytes e) ≡ e
unfolding sqe_bytes
sqe_fields-sqe_bytes e fits =
    let flag : field 1 1 (sqe_bytes e) ≡ flags e =
    little_endian-bytes 1 (flags e) (omega (arith, fits.fuse, fits.reserved, fits.psdt)) in
    let fuse : field 1 1 (sqe_bytes e) % 4 ≡ e.fuse = rw flag (omega (arith, fits.fuse)) in
    let reserved : (field 1 1 (sqe_bytes e) / 4) % 16 ≡ e.reserved =
    rw flag (omega (arith, fits.fuse, fits.reserved)) in
    let psdt : field 1 1 (sqe_bytes e) / 64 ≡ e.psdt = rw flag (omega (arith, fits.fuse, fits.reserved, fits.psdt)) in
    let opcode : field 0 1 (sqe_bytes e) ≡ e.opcode = little_endian-bytes 1 e.opcode fits.opcode in
    let cid : field 2 2 (sqe_bytes e) ≡ e.cid = little_endian-bytes 2 e.cid fits.cid in
    let nsid : field 4 4 (sqe_bytes e) ≡ e.nsid = little_endian-bytes 4 e.nsid fits.nsid in
    let cdw2 : field 8 4 (sqe_bytes e) ≡ e.cdw2 = little_endian-bytes 4 e.cdw2 fits.cdw2 in
    let cdw3 : field 12 4 (sqe_bytes e) ≡ e.cdw3 = little_endian-bytes 4 e.cdw3 fits.cdw3 in
    let mptr : field 16 8 (sqe_bytes e) ≡ e.mptr = little_endian-bytes 8 e.mptr fits.mptr in
    let dptr : field 24 16 (sqe_bytes e) ≡ e.dptr = little_endian-bytes 16 e.dptr fits.dptr in
    let cdw10 : field 40 4 (sqe_bytes e) ≡ e.cdw10 = little_endian-bytes 4 e.cdw10 fits.cdw10 in
    let cdw11 : field 44 4 (sqe_bytes e) ≡ e.cdw11 = little_endian-bytes 4 e.cdw11 fits.cdw11 in
    let cdw12 : field 48 4 (sqe_bytes e) ≡ e.cdw12 = little_endian-bytes 4 e.cdw12 fits.cdw12 in
    let cdw13 : field 52 4 (sqe_bytes e) ≡ e.cdw13 = little_endian-bytes 4 e.cdw13 fits.cdw13 in
    let cdw14 : field 56 4 (sqe_bytes e) ≡ e.cdw14 = little_endian-bytes 4 e.cdw14 fits.cdw14 in
    let cdw15 : field 60 4 (sqe_bytes e) ≡ e.cdw15 = little_endian-bytes 4 e.cdw15 fits.cdw15 in
    same_sqe _ _ opcode fuse reserved psdt cid nsid cdw2 cdw3 mptr dptr cdw10 cdw11 cdw12 cdw13 cdw14 cdw15
