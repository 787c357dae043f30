-- A payload whose bytes were lent is, once the borrow ends, the bytes that were left in it: as many as before, the
-- first of them new.
use Rattle.std.specs.Borrow.{Array, Fml, Lends, MutBor, u8}
use Rattle.std.specs.Prelude.{List, drop, length, take, ℕ, ◌++◌}
use Rattle.nvme_model.specs.contracts.submission.Payload.{the_row}

-- the first bytes of a longer room are lent; the rest of it stays as it is
abbrev pub LendsBytes : MutBor (List ℕ) → MutBor (List ℕ) → Fml
LendsBytes s r = Lends the_row (Array u8 0) s r (λ new. take (length s.now) (new ++ drop (length new) s.now))
