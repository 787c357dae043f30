-- A completion that a controller posted sets no unused bit, however options read it.
use Rattle.std.proofs.Common.{◌≡◌, ℕ, ◌+◌, ◌*◌, ◌/◌, ◌%◌, ◌<◌, ◌≤◌, Bool, true, false, ◌&&◌, cond, List, [], ◌∷◌, refl}
use Rattle.std.proofs.Common.{sym, ap}
use Rattle.std.proofs.Common.{◌∙◌, arith, eq-eqb, get_or, length, set}
use Rattle.std.proofs.lemmas.Bool.{and_from}
use Rattle.nvme_model.specs.Completions.{phase, posted_completions}
use Rattle.nvme_model.specs.Config.{completion_queue}
use Rattle.nvme_model.specs.EntryBytes.{cqe_bytes, cqe_fields}
use Rattle.nvme_model.specs.Queues.{fetched_count}
use Rattle.nvme_model.specs.Tickets
use Rattle.nvme_model.specs.Tickets.{Ticket, cids, posts_of}
use Rattle.nvme_model.specs.declared.config.ConfigNumbers.{ConfigNumbers}
use Rattle.nvme_model.specs.declared.entry.Entry.{Entry}
use Rattle.nvme_model.specs.declared.status.Status.{Status}
use Rattle.nvme_model.proofs.Rules.{follows}
use Rattle.host_laws.specs.Calls.{cqe_status, is_clean}
use Rattle.host_laws.proofs.Statuses.{Narrow, phase_small}
use Rattle.trace.specs.Options.{does_nothing, high_status, low_status, read_completion, with_one_status, without_crd}
use Rattle.trace.specs.Options.{without_dnr, without_dw0, without_dw1, without_more, without_sqhd}
use Rattle.trace.specs.declared.options.TraceOptions.{TraceOptions}
use Rattle.trace.specs.declared.seen.ReapedLine.{ReapedLine}
use Rattle.trace.specs.declared.seen.Seen.{Seen}
use Rattle.refutation.proofs.Answering.{posted_of}
use Rattle.refutation.proofs.LastLine.{LastReap, answers, reap_of}

-- sixteen bytes, of which the first eight are zero, and the upper half of the last
abbrev sixteen : (a b c d e f l m : ℕ) → List ℕ
sixteen a b c d e f l m = 0 ∷ 0 ∷ 0 ∷ 0 ∷ 0 ∷ 0 ∷ 0 ∷ 0 ∷ a ∷ b ∷ c ∷ d ∷ e ∷ f ∷ l ∷ m ∷ []

record CleanBytes (bytes : List ℕ) : Type 0 where
  a : ℕ
  b : ℕ
  c : ℕ
  d : ℕ
  e : ℕ
  f : ℕ
  l : ℕ
  m : ℕ
  is : bytes ≡ sixteen a b c d e f l m
  low : l < 256
  high : m < 16

clean_sixteen : (a b c d e f l m : ℕ) → l < 256 → m < 16 → is_clean (sixteen a b c d e f l m) ≡ true
clean_sixteen a b c d e f l m x y =
    let crd : ((l + 256 * (m + 256 * 0)) / 4096) % 4 ≡ 0 = omega (arith, x, y) in
    let more : ((l + 256 * (m + 256 * 0)) / 16384) % 2 ≡ 0 = omega (arith, x, y) in
    let dnr : (l + 256 * (m + 256 * 0)) / 32768 ≡ 0 = omega (arith, x, y) in
    and_from _ _ (and_from _ _ (and_from _ _ (and_from _ _ refl refl) (eq-eqb _ 0 crd)) (eq-eqb _ 0 more))
    (eq-eqb _ 0 dnr)

with_high : (bytes : List ℕ) (x : CleanBytes bytes) (g : List ℕ → ℕ)
    → g (sixteen x.a x.b x.c x.d x.e x.f x.l x.m) < 16 → CleanBytes (set bytes 15 (g bytes))
with_high bytes x g small =
    record {
      a = x.a;
      b = x.b;
      c = x.c;
      d = x.d;
      e = x.e;
      f = x.f;
      l = x.l;
      m = g (sixteen x.a x.b x.c x.d x.e x.f x.l x.m);
      is = ap (λ (ys : List ℕ). set ys 15 (g ys)) x.is;
      low = x.low;
      high = small;
    }

with_low : (bytes : List ℕ) → CleanBytes bytes → CleanBytes (set bytes 14 (low_status bytes % 2 + 2))
with_low bytes x =
    record {
      a = x.a;
      b = x.b;
      c = x.c;
      d = x.d;
      e = x.e;
      f = x.f;
      l = x.l % 2 + 2;
      m = x.m;
      is = ap (λ (ys : List ℕ). set ys 14 (low_status ys % 2 + 2)) x.is;
      low = omega arith;
      high = x.high;
    }

one_status : (any : Bool) (bytes : List ℕ) → CleanBytes bytes → CleanBytes (with_one_status any bytes)
one_status any bytes x = go (any && does_nothing (cqe_fields bytes))
  where
    lowered : List ℕ
    lowered = set bytes 14 (low_status bytes % 2 + 2)

    go : (b : Bool) → CleanBytes (cond b (set lowered 15 (high_status lowered / 16 * 16)) bytes)
    go false = x
    go true =
        let y = with_low bytes x in
        with_high lowered y (λ ys. high_status ys / 16 * 16) (omega (arith, y.high))

no_dnr : (b : Bool) (bytes : List ℕ) → CleanBytes bytes → CleanBytes (without_dnr b bytes)
no_dnr false bytes x = x
no_dnr true bytes x = with_high bytes x (λ ys. high_status ys % 128) (omega (arith, x.high))

no_more : (b : Bool) (bytes : List ℕ) → CleanBytes bytes → CleanBytes (without_more b bytes)
no_more false bytes x = x
no_more true bytes x =
    with_high bytes x (λ ys. high_status ys / 128 * 128 + high_status ys % 64) (omega (arith, x.high))

no_crd : (b : Bool) (bytes : List ℕ) → CleanBytes bytes → CleanBytes (without_crd b bytes)
no_crd false bytes x = x
no_crd true bytes x =
    with_high bytes x (λ ys. high_status ys / 64 * 64 + high_status ys % 16) (omega (arith, x.high))

no_dw0 : (b : Bool) (bytes : List ℕ) → CleanBytes bytes → CleanBytes (without_dw0 b bytes)
no_dw0 false bytes x = x
no_dw0 true bytes x =
    record {
      a = x.a;
      b = x.b;
      c = x.c;
      d = x.d;
      e = x.e;
      f = x.f;
      l = x.l;
      m = x.m;
      is = ap (λ (ys : List ℕ). set (set (set (set ys 0 0) 1 0) 2 0) 3 0) x.is;
      low = x.low;
      high = x.high;
    }

no_dw1 : (b : Bool) (bytes : List ℕ) → CleanBytes bytes → CleanBytes (without_dw1 b bytes)
no_dw1 false bytes x = x
no_dw1 true bytes x =
    record {
      a = x.a;
      b = x.b;
      c = x.c;
      d = x.d;
      e = x.e;
      f = x.f;
      l = x.l;
      m = x.m;
      is = ap (λ (ys : List ℕ). set (set (set (set ys 4 0) 5 0) 6 0) 7 0) x.is;
      low = x.low;
      high = x.high;
    }

no_sqhd : (b : Bool) (bytes : List ℕ) → CleanBytes bytes → CleanBytes (without_sqhd b bytes)
no_sqhd false bytes x = x
no_sqhd true bytes x =
    record {
      a = 0;
      b = 0;
      c = x.c;
      d = x.d;
      e = x.e;
      f = x.f;
      l = x.l;
      m = x.m;
      is = ap (λ (ys : List ℕ). set (set ys 8 0) 9 0) x.is;
      low = x.low;
      high = x.high;
    }

clean_is : (bytes : List ℕ) → CleanBytes bytes → is_clean bytes ≡ true
clean_is bytes x = ap is_clean x.is ∙ clean_sixteen x.a x.b x.c x.d x.e x.f x.l x.m x.low x.high

clean_read : (o : TraceOptions) (bytes : List ℕ) → CleanBytes bytes → is_clean (read_completion o bytes) ≡ true
clean_read o bytes x =
    let i = o.ignored in
    clean_is (read_completion o bytes) (no_sqhd i.sqhd _ (no_dw1 i.dw1 _ (no_dw0 i.dw0 _ (no_crd i.crd _
    (no_more i.more _ (no_dnr i.dnr _ (one_status o.statuses_any bytes x)))))))

posted_clean : (h q cid p : ℕ) (s : Status) → p ≤ 1 → Narrow s → CleanBytes (cqe_bytes h q cid p s)
posted_clean h q cid p s small n =
    let w = p + (2 * s.sc + 512 * s.sct) in
    record {
      a = h % 256;
      b = (h / 256) % 256;
      c = q % 256;
      d = (q / 256) % 256;
      e = cid % 256;
      f = (cid / 256) % 256;
      l = w % 256;
      m = (w / 256) % 256;
      is = refl;
      low = omega arith;
      high = omega (arith, small, n.sc, n.sct);
    }

pub bits_read : (o : TraceOptions) (c : ConfigNumbers) (r : ReapedLine) (trace : List Seen) → LastReap c r trace
    → is_clean (read_completion o r.cqe) ≡ true
bits_read o c r trace l =
    let x = answers c r trace l in
    let f = posted_of c l.before (reap_of r) x (follows c l.before (Entry.Reap (reap_of r)) l.legal).before in
    let before = f.at.before in
    let k = Tickets.ticket before x.post.ticket in
    let count = length (posted_completions c before (completion_queue c k.queue)) in
    ap (λ (b : List ℕ). is_clean (read_completion o b)) (sym x.cqe ∙ f.is.cqe)
    ∙ clean_read o
    (cqe_bytes (fetched_count before k.queue % c.sq_size) k.queue (get_or (cids k) (posts_of before x.post.ticket) 0)
    (phase count c.cq_size) (cqe_status x.post.cqe))
    (posted_clean (fetched_count before k.queue % c.sq_size) k.queue (get_or (cids k) (posts_of before x.post.ticket) 0)
    (phase count c.cq_size) (cqe_status x.post.cqe) (phase_small count c.cq_size) f.is.narrow)
