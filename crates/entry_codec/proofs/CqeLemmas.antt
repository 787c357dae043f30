-- The 16 bytes of a completion and its fields.
use Rattle.std.proofs.Common.{Bool, List, [], false, true, ap, arith, drop, length, refl, sym, ℕ, ◌%◌, ◌*◌, ◌+◌, ◌/◌}
use Rattle.std.proofs.Common.{◌<◌, ◌≡◌, ◌∙◌, ◌^◌}
use Rattle.std.proofs.lemmas.List.{append-nil, drop_all}
use Rattle.byteorder.specs.Endian.{little_bytes}
use Rattle.nvme_model.specs.Codes.{StatusCode}
use Rattle.nvme_model.specs.EntryBytes.{Cqe, cqe_bytes, cqe_fields, field}
use Rattle.entry_codec.specs.declared.cqe.Cqe.{Cqe as Completion}
use Rattle.entry_codec.specs.Bytes.{IsBytes}
use Rattle.nvme_model.specs.Bits.{bit}
use Rattle.entry_codec.specs.Cqe.{completion_fields}
use Rattle.entry_codec.proofs.Phases.{same_bit}
use Rattle.entry_codec.proofs.LittleLemmas.{little_bytes-field-append, little_endian-bytes}

-- completions with the same fields are the same
same_cqe : (c d : Cqe) → c.dw0 ≡ d.dw0 → c.dw1 ≡ d.dw1 → c.sqhd ≡ d.sqhd → c.sqid ≡ d.sqid → c.cid ≡ d.cid
    → c.phase ≡ d.phase → c.sc ≡ d.sc → c.sct ≡ d.sct → c.crd ≡ d.crd → c.more ≡ d.more → c.dnr ≡ d.dnr → c ≡ d
same_cqe c d dw0 dw1 sqhd sqid cid phase sc sct crd more dnr =
    rw (dw0, dw1, sqhd, sqid, cid, phase, sc, sct, crd, more, dnr) refl

-- the fields of a completion's bytes are the completion's
pub cqe_fields-cqe_bytes : (sqhd sqid cid phase : ℕ) (status : StatusCode) → sqhd < 2 ^ 16 → sqid < 2 ^ 16
    → cid < 2 ^ 16 → phase < 2 → status.sc < 2 ^ 8 → status.sct < 2 ^ 3
    → cqe_fields (cqe_bytes sqhd sqid cid phase status) ≡ record {
      dw0 = 0;
      dw1 = 0;
      sqhd = sqhd;
      sqid = sqid;
      cid = cid;
      phase = phase;
      sc = status.sc;
      sct = status.sct;
      crd = 0;
      more = 0;
      dnr = 0;
    }
cqe_fields-cqe_bytes sqhd sqid cid phase status sqhd_fits sqid_fits cid_fits phase_fits sc_fits sct_fits =
    let bytes : List ℕ = cqe_bytes sqhd sqid cid phase status in
    let number : ℕ = phase + (2 * status.sc + 512 * status.sct) in
    let word : field 14 2 bytes ≡ number = little_endian-bytes 2 number (omega arith) in
    same_cqe (cqe_fields bytes) _ refl refl
    (little_endian-bytes 2 sqhd sqhd_fits)
    (little_endian-bytes 2 sqid sqid_fits)
    (little_endian-bytes 2 cid cid_fits)
    (ap (λ n. n % 2) word ∙ omega arith)
    (ap (λ n. (n / 2) % 256) word ∙ omega arith)
    (ap (λ n. (n / 512) % 8) word ∙ omega arith)
    (ap (λ n. (n / 4096) % 4) word ∙ omega arith)
    (ap (λ n. (n / 16384) % 2) word ∙ omega arith)
    (ap (λ n. n / 32768) word ∙ omega arith)

-- the last two bytes as one number
word-parts : (n phase sc sct : ℕ) → n % 2 ≡ phase → (n / 2) % 256 ≡ sc → (n / 512) % 8 ≡ sct → (n / 4096) % 4 ≡ 0
    → (n / 16384) % 2 ≡ 0 → n / 32768 ≡ 0 → n ≡ phase + (2 * sc + 512 * sct)
word-parts n phase sc sct phase_is sc_is sct_is crd more dnr = omega arith

-- 16 bytes with a completion's fields are the completion's bytes
pub cqe_bytes-fields : (sqhd sqid cid phase : ℕ) (status : StatusCode) (bytes : List ℕ) → length bytes ≡ 16
    → IsBytes bytes → cqe_fields bytes ≡ record {
      dw0 = 0;
      dw1 = 0;
      sqhd = sqhd;
      sqid = sqid;
      cid = cid;
      phase = phase;
      sc = status.sc;
      sct = status.sct;
      crd = 0;
      more = 0;
      dnr = 0;
    } → bytes ≡ cqe_bytes sqhd sqid cid phase status
cqe_bytes-fields sqhd sqid cid phase status bytes long each same =
    let dw0 : field 0 4 bytes ≡ 0 = ap (λ (e : Cqe). e.dw0) same in
    let dw1 : field 4 4 bytes ≡ 0 = ap (λ (e : Cqe). e.dw1) same in
    let head : field 8 2 bytes ≡ sqhd = ap (λ (e : Cqe). e.sqhd) same in
    let queue : field 10 2 bytes ≡ sqid = ap (λ (e : Cqe). e.sqid) same in
    let command : field 12 2 bytes ≡ cid = ap (λ (e : Cqe). e.cid) same in
    let word : field 14 2 bytes ≡ phase + (2 * status.sc + 512 * status.sct) =
    word-parts (field 14 2 bytes) phase status.sc status.sct
    (ap (λ (e : Cqe). e.phase) same) (ap (λ (e : Cqe). e.sc) same) (ap (λ (e : Cqe). e.sct) same)
    (ap (λ (e : Cqe). e.crd) same) (ap (λ (e : Cqe). e.more) same) (ap (λ (e : Cqe). e.dnr) same) in
    let at14 : little_bytes 2 (field 14 2 bytes) ≡ drop 14 bytes =
    sym (append-nil (little_bytes 2 (field 14 2 bytes)))
    ∙ little_bytes-field-append 14 2 bytes [] (omega arith) each (sym (drop_all 16 bytes (omega arith))) in
    let at12 = little_bytes-field-append 12 2 bytes _ (omega arith) each at14 in
    let at10 = little_bytes-field-append 10 2 bytes _ (omega arith) each at12 in
    let at8 = little_bytes-field-append 8 2 bytes _ (omega arith) each at10 in
    let at4 = little_bytes-field-append 4 4 bytes _ (omega arith) each at8 in
    let at0 = little_bytes-field-append 0 4 bytes _ (omega arith) each at4 in
    sym (rw (dw0, dw1, head, queue, command, word) at at0)

-- a bit is below 2
pub bit-lt : (p : Bool) → bit p < 2
bit-lt true = omega arith
bit-lt false = omega arith

-- completions whose bytes have the same fields are the same
pub completion_fields-injective : (c d : Completion) → completion_fields c ≡ completion_fields d → c ≡ d
completion_fields-injective c d same =
    let sqhd : c.sqhd ≡ d.sqhd = ap (λ (e : Cqe). e.sqhd) same in
    let sqid : c.sqid ≡ d.sqid = ap (λ (e : Cqe). e.sqid) same in
    let cid : c.cid ≡ d.cid = ap (λ (e : Cqe). e.cid) same in
    let phase : c.phase ≡ d.phase = same_bit c.phase d.phase (ap (λ (e : Cqe). e.phase) same) in
    let sc : c.status.sc ≡ d.status.sc = ap (λ (e : Cqe). e.sc) same in
    let sct : c.status.sct ≡ d.status.sct = ap (λ (e : Cqe). e.sct) same in
    rw (sqhd, sqid, cid, phase, sc, sct) refl
