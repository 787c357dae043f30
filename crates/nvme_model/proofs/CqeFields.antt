-- Fields of a completion.
use Rattle.std.proofs.Common.{arith, ℕ, ◌%◌, ◌*◌, ◌+◌, ◌/◌, ◌<◌, ◌≡◌}
use Rattle.nvme_model.specs.EntryBytes.{cqe_bytes, cqe_fields}
use Rattle.nvme_model.specs.declared.status.Status.{Status}

pub sqid_back : (h q cid p : ℕ) (s : Status) → q < 65536 → (cqe_fields (cqe_bytes h q cid p s)).sqid ≡ q
sqid_back h q cid p s l =
    let e : q % 256 + 256 * ((q / 256) % 256 + 256 * 0) ≡ q = omega (arith, l) in
    e
