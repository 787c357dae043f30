-- The parts of an entry that is read.
use Rattle.std.proofs.Common.{◌≡◌, ℕ, Bool, List, None, Some, refl}
use Rattle.std.specs.Prelude.{Option}
use Rattle.nvme_model.specs.declared.array.Mode.{Mode}
use Rattle.nvme_model.specs.declared.entry.Entry.{Entry}
use Rattle.nvme_model.specs.declared.operation.Found.{Found}
use Rattle.nvme_model.specs.declared.status.Verdict.{Verdict}
use Rattle.nvme_model.specs.declared.submission.Submission.{Submission}
use Rattle.history.specs.Lines.{publish_from, fetch_from, grant_from, block_from, post_from, reap_from}

-- of a Publish
pub published_parts : (q : Option ℕ) (b : Option (List Submission)) (e : Entry) → publish_from q b ≡ Some e
    → (n : ℕ) × (xs : List Submission) × (q ≡ Some n) × (b ≡ Some xs)
    × (Entry.Publish (record { queue = n; batch = xs }) ≡ e)
published_parts None b e h = absurd cc
published_parts (Some n) None e h = absurd cc
published_parts (Some n) (Some xs) e h = (n, xs, refl, refl, cc)

-- of a Fetch
pub fetched_parts : (q t : Option ℕ) (v : Option Verdict) (e : Entry) → fetch_from q t v ≡ Some e
    → (n : ℕ) × (k : ℕ) × (w : Verdict) × (q ≡ Some n) × (t ≡ Some k) × (v ≡ Some w)
    × (Entry.Fetch (record { queue = n; ticket = k; verdict = w }) ≡ e)
fetched_parts None t v e h = absurd cc
fetched_parts (Some n) None v e h = absurd cc
fetched_parts (Some n) (Some k) None e h = absurd cc
fetched_parts (Some n) (Some k) (Some w) e h = (n, k, w, refl, refl, refl, cc)

-- of a Grant
pub granted_parts : (t u s n : Option ℕ) (m : Option Mode) (e : Entry) → grant_from t u s n m ≡ Some e
    → (a : ℕ) × (b : ℕ) × (c : ℕ) × (d : ℕ) × (k : Mode) × (t ≡ Some a) × (u ≡ Some b) × (s ≡ Some c) × (n ≡ Some d)
    × (m ≡ Some k)
    × (Entry.Grant (record { ticket = a; unit = b; range = record { slba = c; blocks = d }; mode = k }) ≡ e)
granted_parts None u s n m e h = absurd cc
granted_parts (Some a) None s n m e h = absurd cc
granted_parts (Some a) (Some b) None n m e h = absurd cc
granted_parts (Some a) (Some b) (Some c) None m e h = absurd cc
granted_parts (Some a) (Some b) (Some c) (Some d) None e h = absurd cc
granted_parts (Some a) (Some b) (Some c) (Some d) (Some k) e h = (a, b, c, d, k, refl, refl, refl, refl, refl, cc)

-- of a Block
pub blocked_parts : (t u l : Option ℕ) (f : Option Found) (m : Option Bool) (e : Entry) → block_from t u l f m ≡ Some e
    → (a : ℕ) × (b : ℕ) × (c : ℕ) × (k : Found) × (x : Bool) × (t ≡ Some a) × (u ≡ Some b) × (l ≡ Some c) × (f ≡ Some k)
    × (m ≡ Some x)
    × (Entry.Block (record { ticket = a; unit = b; lba = c; found = k; effect = x }) ≡ e)
blocked_parts None u l f m e h = absurd cc
blocked_parts (Some a) None l f m e h = absurd cc
blocked_parts (Some a) (Some b) None f m e h = absurd cc
blocked_parts (Some a) (Some b) (Some c) None m e h = absurd cc
blocked_parts (Some a) (Some b) (Some c) (Some k) None e h = absurd cc
blocked_parts (Some a) (Some b) (Some c) (Some k) (Some x) e h = (a, b, c, k, x, refl, refl, refl, refl, refl, cc)

-- of a Post
pub posted_parts : (t : Option ℕ) (c d : Option (List ℕ)) (e : Entry) → post_from t c d ≡ Some e
    → (n : ℕ) × (xs : List ℕ) × (ys : List ℕ) × (t ≡ Some n) × (c ≡ Some xs) × (d ≡ Some ys)
    × (Entry.Post (record { ticket = n; cqe = xs; payload = ys }) ≡ e)
posted_parts None c d e h = absurd cc
posted_parts (Some n) None d e h = absurd cc
posted_parts (Some n) (Some xs) None e h = absurd cc
posted_parts (Some n) (Some xs) (Some ys) e h = (n, xs, ys, refl, refl, refl, cc)

-- of a Reap
pub reaped_parts : (q : Option ℕ) (c : Option (List ℕ)) (e : Entry) → reap_from q c ≡ Some e
    → (n : ℕ) × (xs : List ℕ) × (q ≡ Some n) × (c ≡ Some xs) × (Entry.Reap (record { queue = n; cqe = xs }) ≡ e)
reaped_parts None c e h = absurd cc
reaped_parts (Some n) None e h = absurd cc
reaped_parts (Some n) (Some xs) e h = (n, xs, refl, refl, cc)
