-- What a Fetch finds, and what is kept after it.
use Rattle.std.proofs.Common.{◌≡◌, ◌≢◌, ℕ, suc, ◌*◌, ◌+◌, ◌%◌, ◌≤◌, ◌<◌, ◌==◌, ◌&&◌, Bool, true, false, cond, List, []}
use Rattle.std.proofs.Common.{◌∷◌, ◌++◌, drop, length, get_or, map, set, slice_get, take, Option, Some, None, is_none}
use Rattle.std.proofs.Common.{is_some, option_map, refl, sym, ap, ap₂, ◌∙◌, subst, arith, eqb-true, eq-eqb, ne_eqb}
use Rattle.std.proofs.Common.{nat_le}
use Rattle.std.specs.List.{count_by}
use Rattle.std.proofs.lemmas.Bool.{and_parts, lt-leb}
use Rattle.std.proofs.lemmas.List.{append-nil, length-map, length-take}
use Rattle.std.proofs.Math.Nat.{mod-add-mod}
use Rattle.history_check.specs.Judged.{in_use, judged, checked_verdict}
use Rattle.history_check.specs.Tables.{flight, just_fetched, tables}
use Rattle.history_check.specs.Taken.{fetched_by, tables_after}
use Rattle.rings.specs.Used.{AreUsed, UsedCids}
use Rattle.rings.proofs.CidCounts.{count_append, same_in, same_length, used_at, used_set}
use Rattle.fused_match.specs.Judged as matched
use Rattle.fused_match.specs.Judged.{IsSound, NamesBlocks, operation_in, units_in_order, waiting_items}
use Rattle.fused_match.proofs.Sound.{sound_for, sound_of}
use Rattle.fused_match.specs.declared.judged.Judged.{Judged}
use Rattle.fused_match.specs.declared.judged.Judged.TheVariants as judgement
use Rattle.nvme_model.specs.Cut.{cut}
use Rattle.nvme_model.specs.EntryBytes.{Sqe, block_count, slba, sqe_fields}
use Rattle.nvme_model.specs.History.{Past}
use Rattle.nvme_model.specs.Legal.{IsLegal}
use Rattle.nvme_model.specs.Operations.{is_pair, op, op_by, op_of_fields, units, units_by}
use Rattle.nvme_model.specs.Tickets
use Rattle.nvme_model.specs.Tickets.{Ticket, cids, command, fetched_ticket, first_fields}
use Rattle.nvme_model.specs.Verdict
use Rattle.nvme_model.specs.Verdict.{Item, item_of, same_verdict, verdict_of}
use Rattle.nvme_model.specs.declared.config.AtomicParameters.{AtomicParameters}
use Rattle.nvme_model.specs.declared.config.ConfigNumbers.{ConfigNumbers}
use Rattle.nvme_model.specs.declared.entry.Entry.{Entry}
use Rattle.nvme_model.specs.declared.entry.FetchLine.{FetchLine}
use Rattle.nvme_model.specs.declared.operation.Op.{Op}
use Rattle.nvme_model.specs.declared.refusal.Why.{Why}
use Rattle.nvme_model.specs.declared.status.Verdict.{Verdict as Said}
use Rattle.nvme_model.specs.declared.submission.Submission.{Submission}
use Rattle.nvme_model.proofs.Checked.{TicketChecked, ticket_checked}
use Rattle.nvme_model.proofs.Lists.{Each, each_map}
use Rattle.rings.specs.Submissions.{SubmissionRing, advanced}
use Rattle.ticket_laws.specs.Standing.{flying}
use Rattle.ticket_laws.proofs.Counts.{taken_some, taken_within}
use Rattle.ticket_laws.proofs.InUse.{verdict_same}
use Rattle.ticket_laws.proofs.Unfetched.{flying_known}
use Rattle.history_check.specs.Kept.{IsCheckerState, CheckerState, flight_in}
use Rattle.history_check.specs.Rings.{checked_submission_ring}
use Rattle.history_check.specs.Steps.{Took}
use Rattle.history_check.specs.declared.fields.CheckedInFlight.{CheckedInFlight}
use Rattle.history_check.proofs.Flights.{more_one}
use Rattle.history_check.proofs.InUse.{in_use_few, in_use_fetched}
use Rattle.history_check.proofs.Following.{legal_next, took_not}
use Rattle.history_check.proofs.Rings.{IsPlace, apart, ring_at, there}
use Rattle.rings.proofs.Tables.{IsTable-set}
use Rattle.nvme_model.proofs.NextPost.{not_pair}
use Rattle.nvme_model.proofs.Accepted.{accepted}

-- ---- verdicts

-- the same verdict is one
verdict_one : (v w : Said) → same_verdict v w ≡ true → v ≡ w
verdict_one Said.Single Said.Single e = refl
verdict_one Said.Pair Said.Pair e = refl
verdict_one (Said.SingleFailed s) (Said.SingleFailed r) e =
    let p = and_parts (s.sct == r.sct) (s.sc == r.sc) e in
    let a = eqb-true s.sct r.sct p.0 in
    let b = eqb-true s.sc r.sc p.1 in
    (λ i. Said.SingleFailed (record { sct = a i; sc = b i }))
verdict_one (Said.PairFailed s t) (Said.PairFailed r v) e =
    let q = and_parts _ _ e in
    let p = and_parts (s.sct == r.sct) (s.sc == r.sc) q.0 in
    let o = and_parts (t.sct == v.sct) (t.sc == v.sc) q.1 in
    let a = eqb-true s.sct r.sct p.0 in
    let b = eqb-true s.sc r.sc p.1 in
    let d = eqb-true t.sct v.sct o.0 in
    let f = eqb-true t.sc v.sc o.1 in
    (λ i. Said.PairFailed (record { sct = a i; sc = b i }) (record { sct = d i; sc = f i }))
verdict_one Said.Single Said.Pair e = absurd (let f : false ≡ true = e in cc)
verdict_one Said.Single (Said.SingleFailed r) e = absurd (let f : false ≡ true = e in cc)
verdict_one Said.Single (Said.PairFailed r v) e = absurd (let f : false ≡ true = e in cc)
verdict_one Said.Pair Said.Single e = absurd (let f : false ≡ true = e in cc)
verdict_one Said.Pair (Said.SingleFailed r) e = absurd (let f : false ≡ true = e in cc)
verdict_one Said.Pair (Said.PairFailed r v) e = absurd (let f : false ≡ true = e in cc)
verdict_one (Said.SingleFailed s) Said.Single e = absurd (let f : false ≡ true = e in cc)
verdict_one (Said.SingleFailed s) Said.Pair e = absurd (let f : false ≡ true = e in cc)
verdict_one (Said.SingleFailed s) (Said.PairFailed r v) e = absurd (let f : false ≡ true = e in cc)
verdict_one (Said.PairFailed s t) Said.Single e = absurd (let f : false ≡ true = e in cc)
verdict_one (Said.PairFailed s t) Said.Pair e = absurd (let f : false ≡ true = e in cc)
verdict_one (Said.PairFailed s t) (Said.SingleFailed r) e = absurd (let f : false ≡ true = e in cc)

-- a verdict looks at two entries
front_verdict : (u : AtomicParameters) (size : ℕ) (cids : List ℕ) (ws : List Submission) (first : Submission)
    → slice_get ws 0 ≡ Some first
    → verdict_of u size cids (waiting_items (item_of first) (option_map item_of (slice_get ws 1)))
    ≡ verdict_of u size cids (map item_of ws)
front_verdict u size cids [] first e = absurd cc
front_verdict u size cids (x ∷ []) first e =
    ap (λ (s : Submission). verdict_of u size cids (item_of s ∷ [])) (some_inj e)
  where
    some_inj : Some x ≡ Some first → first ≡ x
    some_inj h = cc
front_verdict u size cids (x ∷ (y ∷ ws)) first e =
    ap (λ (s : Submission). verdict_of u size cids (item_of s ∷ item_of y ∷ [])) (some_inj e)
  where
    some_inj : Some x ≡ Some first → first ≡ x
    some_inj h = cc

-- the first command of those that are taken
front_fields : (ws : List Submission) (q : ℕ) (v : Said) (first : Submission) → slice_get ws 0 ≡ Some first
    → sqe_fields first.entry
    ≡ first_fields (record { queue = q; commands = take (Verdict.taken_entries v) ws; verdict = v })
front_fields [] q v first e = absurd cc
front_fields (x ∷ ws) q v first e = ap (λ (s : Submission). sqe_fields s.entry) (by v)
  where
    some_inj : Some x ≡ Some first → first ≡ x
    some_inj h = cc

    by : (v : Said) → first
        ≡ command (record { queue = q; commands = take (Verdict.taken_entries v) (x ∷ ws); verdict = v }) 0
    by Said.Single = some_inj e
    by (Said.SingleFailed s) = some_inj e
    by Said.Pair = some_inj e
    by (Said.PairFailed s t) = some_inj e

-- an entry waits
pub front_some : (ws : List Submission) (first : Submission) → slice_get ws 0 ≡ Some first → 0 < length ws
front_some [] first e = absurd cc
front_some (x ∷ ws) first e = omega arith

pub front_none : (ws : List Submission) → slice_get ws 0 ≡ None → length ws ≡ 0
front_none [] e = refl
front_none (x ∷ ws) e = absurd (let f : Some x ≡ None = e in cc)

-- ---- units

-- what was judged names the units
units_named : (u : AtomicParameters) (j : Judged) (e : Sqe) → operation_in j ≡ op_by (matched.verdict_by j) e
    → NamesBlocks j e → units_in_order u j ≡ units_by u (op_by (matched.verdict_by j) e) (slba e) (block_count e)
units_named u judgement.Flush e o n = ap (λ x. units_by u x (slba e) (block_count e)) o
units_named u (judgement.SingleFailed s) e o n = refl
units_named u (judgement.PairFailed s t) e o n = refl
units_named u (judgement.Pair r) e o n = ap₂ (λ (a b : ℕ). record { slba = a; blocks = b } ∷ []) n.0 n.1
units_named u (judgement.Single x r) e o n = go x o ∙ ap (λ y. units_by u y (slba e) (block_count e)) o
  where
    cuts : cut u r.slba r.blocks ≡ cut u (slba e) (block_count e)
    cuts = ap₂ (λ (a b : ℕ). cut u a b) n.0 n.1

    go : (x : Op) → Some x ≡ op_of_fields e → cut u r.slba r.blocks ≡ units_by u (Some x) (slba e) (block_count e)
    go Op.Read q = cuts
    go Op.Compare q = cuts
    go Op.Write q = cuts
    go Op.WriteZeroes q = cuts
    go Op.Pair q = absurd (let f : true ≡ false = ap is_pair q ∙ not_pair e in cc)

-- ---- the rule

abbrev fetch_form : Bool → Bool → Bool → Bool → Bool
fetch_form gone none full fits =
    is_none (cond gone (Some Why.NoQueue) (cond none (Some Why.NoEntry) (cond full (Some Why.JobsFull) None))) && fits

form_unfit : (none full : Bool) → fetch_form false none full false ≡ false
form_unfit true full = refl
form_unfit false true = refl
form_unfit false false = refl

module _ (c : ConfigNumbers) (past : Past) (k : CheckerState) (keeps : IsCheckerState c past k) (l : FetchLine) (i : ℕ)
    (place : IsPlace c.pairs l.queue i) (r : SubmissionRing) (is : r ≡ get_or k.submission i r) where
  pub ring_is : r ≡ checked_submission_ring c (tables c past) l.queue
  ring_is = ring_at (checked_submission_ring c (tables c past)) c.pairs l.queue i k.submission r keeps.shows.sq_rings
      place is

  pub waiting_is : r.waiting ≡ (tables c past).waiting l.queue
  waiting_is = ap (λ (y : SubmissionRing). y.waiting) ring_is

  rule_is : judged c (tables c past) (Entry.Fetch l)
      ≡ fetch_form false (length ((tables c past).waiting l.queue) == 0) (nat_le c.jobs (length (flying past)))
      ((l.ticket == Tickets.tickets past + 1) && same_verdict l.verdict (checked_verdict c (tables c past) l.queue))
  rule_is = ap (λ b. fetch_form b (length ((tables c past).waiting l.queue) == 0) (nat_le c.jobs (length (flying past)))
      ((l.ticket == Tickets.tickets past + 1) && same_verdict l.verdict (checked_verdict c (tables c past) l.queue)))
      (there c.pairs l.queue i place)

  -- nothing waits
  pub fetch_none : (after : CheckerState) → slice_get r.waiting 0 ≡ None → Took c past (Entry.Fetch l) false after
  fetch_none after e =
      let empty = eq-eqb (length ((tables c past).waiting l.queue)) 0
      (front_none ((tables c past).waiting l.queue)
      (ap (λ (xs : List Submission). slice_get xs 0) (sym waiting_is) ∙ e)) in
      took_not c past (Entry.Fetch l) after
      (rule_is ∙ ap (λ b. fetch_form false b (nat_le c.jobs (length (flying past)))
      ((l.ticket == Tickets.tickets past + 1) && same_verdict l.verdict (checked_verdict c (tables c past) l.queue)))
      empty)

  pub count_is : length k.flights ≡ length (flying past)
  count_is = ap length keeps.shows.in_flight ∙ length-map (flying past) (flight_in c (tables c past))

  -- the CIDs that are kept of its queue are those in use on it
  used_here : (u : UsedCids) → u ≡ get_or k.in_use i u → AreUsed (2 * c.jobs) (in_use (tables c past) l.queue) u
  used_here u used = used_at c.pairs (2 * c.jobs) (in_use (tables c past)) k.in_use i l.queue u keeps.shows.in_use
      place.next place.within used

  module _ (first : Submission) (waits : slice_get r.waiting 0 ≡ Some first) (next : Option Item)
      (behind : next ≡ option_map item_of (slice_get r.waiting 1)) (room : length k.flights < c.jobs) (j : Judged)
      (u : UsedCids) (used : u ≡ get_or k.in_use i u) (ones : List ℕ) (ones_are : ones ≡ u.cids)
      (verdict : matched.verdict_by j ≡ verdict_of c.atomic c.blocks ones (waiting_items (item_of first) next))
      (operation : operation_in j ≡ op_by (matched.verdict_by j) (sqe_fields first.entry))
      (names : NamesBlocks j (sqe_fields first.entry)) where
    pub front : slice_get ((tables c past).waiting l.queue) 0 ≡ Some first
    front = ap (λ (xs : List Submission). slice_get xs 0) (sym waiting_is) ∙ waits

    pub verdict_is : matched.verdict_by j ≡ checked_verdict c (tables c past) l.queue
    verdict_is =
        let items = waiting_items (item_of first)
        (option_map item_of (slice_get ((tables c past).waiting l.queue) 1)) in
        verdict
        ∙ ap₂ (λ (cids : List ℕ) (o : Option Item). verdict_of c.atomic c.blocks cids (waiting_items (item_of first) o))
        ones_are
        (behind ∙ ap (λ (xs : List Submission). option_map item_of (slice_get xs 1)) waiting_is)
        ∙ verdict_same c.atomic c.blocks u.cids (in_use (tables c past) l.queue) items
        (same_in u.cids (in_use (tables c past) l.queue) (used_here u used).cids)
        ∙ front_verdict c.atomic c.blocks (in_use (tables c past) l.queue) ((tables c past).waiting l.queue) first front

    fits_is : ((l.ticket == k.tickets + 1) && same_verdict l.verdict (matched.verdict_by j))
        ≡ ((l.ticket == Tickets.tickets past + 1) && same_verdict l.verdict (checked_verdict c (tables c past) l.queue))
    fits_is = ap₂ (λ (n : ℕ) (v : Said). (l.ticket == n + 1) && same_verdict l.verdict v) keeps.shows.count verdict_is

    -- it says something else
    pub fetch_unfit : (after : CheckerState)
        → ((l.ticket == k.tickets + 1) && same_verdict l.verdict (matched.verdict_by j)) ≡ false
        → Took c past (Entry.Fetch l) false after
    fetch_unfit after e =
        took_not c past (Entry.Fetch l) after
        (rule_is ∙ ap (fetch_form false (length ((tables c past).waiting l.queue) == 0)
        (nat_le c.jobs (length (flying past)))) (sym fits_is ∙ e)
        ∙ form_unfit (length ((tables c past).waiting l.queue) == 0) (nat_le c.jobs (length (flying past))))

    -- few entries are taken
    pub fetch_some : (n : ℕ) → n ≡ Verdict.taken_entries (matched.verdict_by j)
        → (1 ≤ n) × (n ≤ 2) × (n ≤ length r.waiting)
    fetch_some n e =
        let some = taken_some (matched.verdict_by j) in
        let least = front_some ((tables c past).waiting l.queue) first front in
        let within = taken_within c.atomic c.blocks (in_use (tables c past) l.queue)
        (map item_of ((tables c past).waiting l.queue))
        (omega (arith, least, length-map ((tables c past).waiting l.queue) item_of)) in (
          omega (arith, some.0, e),
          omega (arith, some.1, e),
          omega (
            arith,
            e,
            within,
            ap Verdict.taken_entries verdict_is,
            length-map ((tables c past).waiting l.queue) item_of,
            ap length waiting_is,
          ),
        )

    -- there is room for the CIDs of the ticket
    pub fetch_room : (n : ℕ) → n ≡ Verdict.taken_entries (matched.verdict_by j) → (commands : List Submission)
        → commands ≡ take n r.waiting → (t : Ticket) → t.commands ≡ commands → (w : UsedCids) → w ≡ get_or k.in_use i w
        → length w.cids + length (cids t) ≤ w.room
    fetch_room n is_n commands is_commands t is_t w is_w =
        omega (
          arith,
          same_length w.cids (in_use (tables c past) l.queue) (used_here w is_w).cids,
          in_use_few c past l.queue,
          (used_here w is_w).room,
          count_is,
          room,
          (fetch_some n is_n).1,
          length-map t.commands (λ s. (sqe_fields s.entry).cid),
          ap length is_t,
          ap length is_commands,
          length-take n r.waiting,
        )

    module _ (fits : ((l.ticket == k.tickets + 1) && same_verdict l.verdict (matched.verdict_by j)) ≡ true) where
      answer_is : judged c (tables c past) (Entry.Fetch l) ≡ true
      answer_is =
          let least = front_some ((tables c past).waiting l.queue) first front in
          let some = ne_eqb (length ((tables c past).waiting l.queue)) 0 (λ e. omega (arith, e, least)) in
          let free = lt-leb c.jobs (length (flying past)) (omega (arith, room, count_is)) in
          rule_is ∙ (λ z. fetch_form false (some z) (free z) ((sym fits_is ∙ fits) z))

      legal_then : IsLegal c (Entry.Fetch l ∷ past)
      legal_then = legal_next c past k (Entry.Fetch l) keeps answer_is

      ticket_next : l.ticket ≡ Tickets.tickets past + 1
      ticket_next = eqb-true l.ticket (k.tickets + 1) (and_parts _ _ fits).0 ∙ ap (λ n. n + 1) keeps.shows.count

      same : l.verdict ≡ matched.verdict_by j
      same = verdict_one l.verdict (matched.verdict_by j) (and_parts (l.ticket == k.tickets + 1) _ fits).1

      fields_is : sqe_fields first.entry ≡ first_fields (fetched_by (tables c past) l)
      fields_is = front_fields ((tables c past).waiting l.queue) l.queue l.verdict first front

      op_is : op_by (matched.verdict_by j) (sqe_fields first.entry) ≡ op (fetched_by (tables c past) l)
      op_is = ap₂ op_by (sym same) fields_is

      checked : is_some (op (fetched_by (tables c past) l)) ≡ true → TicketChecked c (fetched_by (tables c past) l)
      checked =
          subst (λ (t : Ticket). is_some (op t) ≡ true → TicketChecked c t)
          (ap (λ b. cond b (fetched_ticket past l.queue l.verdict) (Tickets.ticket past l.ticket))
          (eq-eqb l.ticket l.ticket refl))
          (ticket_checked c (Entry.Fetch l ∷ past) l.ticket legal_then)

      -- what was judged is sound
      pub fetch_sound : IsSound j
      fetch_sound =
          sound_of c.atomic j (sound_for c j (fetched_by (tables c past) l) (sym same) (operation ∙ op_is)
          (subst (NamesBlocks j) fields_is names) checked (accepted c keeps.accepted).most_blocks)

      -- its units are those of the ticket
      units_are : units_in_order c.atomic j ≡ units c (fetched_by (tables c past) l)
      units_are = units_named c.atomic j (sqe_fields first.entry) operation names
          ∙ (λ z. units_by c.atomic (op_is z) (slba (fields_is z)) (block_count (fields_is z)))

      -- ---- what is kept then

      pub fetch_yes : (n : ℕ) → n ≡ Verdict.taken_entries (matched.verdict_by j) → (y : SubmissionRing)
          → y ≡ advanced r n
          → (commands : List Submission) → commands ≡ take n r.waiting → (x : CheckedInFlight)
          → x ≡ record {
            ticket = l.ticket;
            flight = just_fetched (record { queue = l.queue; commands = commands; verdict = l.verdict });
            units = units_in_order c.atomic j;
          }
          → (fs : List CheckedInFlight) → fs ≡ k.flights ++ x ∷ [] → (w v : UsedCids) → w ≡ get_or k.in_use i w
          → v ≡ record w {
            cids = w.cids
                ++ cids (record { queue = l.queue; commands = commands; verdict = l.verdict });
          }
          → Took c past (Entry.Fetch l) true
          (record k {
            submission = set k.submission i y;
            in_use = set k.in_use i v;
            flights = fs;
            tickets = l.ticket;
          })
      fetch_yes n is_n y is_y commands is_commands x is_x fs is_fs w v is_w is_v = record {
        answer = sym answer_is;
        shows = λ _. record {
          blocks = keeps.shows.blocks;
          values = keeps.shows.values;
          sq_rings = IsTable-set _ (λ q. checked_submission_ring c (tables_after c (tables c past) (Entry.Fetch l))
              (suc q)) c.pairs i
              k.submission y keeps.shows.sq_rings place.within own others;
          in_use = used_set c.pairs (2 * c.jobs) (in_use (tables c past))
              (in_use (tables_after c (tables c past) (Entry.Fetch l))) k.in_use i v keeps.shows.in_use place.within
              used_own
              used_others;
          cq_rings = keeps.shows.cq_rings;
          in_flight = is_fs ∙ ap (λ (xs : List CheckedInFlight). xs ++ x ∷ []) keeps.shows.in_flight
              ∙ more_one (flight_in c (tables c past)) (flight_in c (tables_after c (tables c past) (Entry.Fetch l)))
              (flying past) l.ticket x (each_map (λ t. t ≢ l.ticket) _ flight_others (flying past) all_others)
              flight_own;
          ranges = keeps.shows.ranges;
          count = ticket_next;
        };
      }
        where
          count : n ≡ Verdict.taken_entries l.verdict
          count = is_n ∙ ap Verdict.taken_entries (sym same)

          all_others : Each (λ t. t ≢ l.ticket) (flying past)
          all_others = each_map (λ t. t ≤ Tickets.tickets past) (λ t. t ≢ l.ticket)
              (λ t low e. omega (arith, e, low, ticket_next)) (flying past) (flying_known past)

          ticket_is : cids (record { queue = l.queue; commands = commands; verdict = l.verdict })
              ≡ cids (fetched_by (tables c past) l)
          ticket_is = ap (λ (xs : List Submission).
              cids (record { queue = l.queue; commands = xs; verdict = l.verdict }))
              (is_commands ∙ (λ w. take (count w) (waiting_is w)))

          used_own : AreUsed (2 * c.jobs) (in_use (tables_after c (tables c past) (Entry.Fetch l)) (suc i)) v
          used_own =
              let here : l.queue ≡ suc i = omega (arith, place.next) in
              subst (λ (q : ℕ). AreUsed (2 * c.jobs) (in_use (tables_after c (tables c past) (Entry.Fetch l)) q) v) here
              (subst (AreUsed (2 * c.jobs) (in_use (tables_after c (tables c past) (Entry.Fetch l)) l.queue)) (sym is_v)
              (record {
                cids = λ p.
                    let more = ap (count_by p) (in_use_fetched c (tables c past) l l.queue all_others
                    ∙ ap (λ b. in_use (tables c past) l.queue ++ cond b (cids (fetched_by (tables c past) l)) [])
                    (eq-eqb l.queue l.queue refl)) in
                    omega (
                      arith,
                      count_append p w.cids (cids
                          (record { queue = l.queue; commands = commands; verdict = l.verdict })),
                      (used_here w is_w).cids p,
                      ap (count_by p) ticket_is,
                      more,
                      count_append p (in_use (tables c past) l.queue) (cids (fetched_by (tables c past) l)),
                    );
                room = (used_here w is_w).room;
              }))

          used_others : (q : ℕ) → q ≢ i → (p : ℕ → Bool)
              → count_by p (in_use (tables_after c (tables c past) (Entry.Fetch l)) (suc q))
              ≡ count_by p (in_use (tables c past) (suc q))
          used_others q ne p = ap (count_by p) (
              in_use_fetched c (tables c past) l (suc q) all_others
              ∙ ap (λ b. in_use (tables c past) (suc q) ++ cond b (cids (fetched_by (tables c past) l)) [])
              (ne_eqb l.queue (suc q) (apart c.pairs l.queue i q place ne))
              ∙ append-nil (in_use (tables c past) (suc q))
              )

          own : y ≡ checked_submission_ring c (tables_after c (tables c past) (Entry.Fetch l)) (suc i)
          own =
              let here : l.queue ≡ suc i = omega (arith, place.next) in
              is_y ∙ (λ z. advanced (ring_is z) (count z))
              ∙ ap (λ h. record {
                size = c.sq_size;
                head = h;
                waiting = drop (Verdict.taken_entries l.verdict) ((tables c past).waiting l.queue);
              })
              (mod-add-mod ((tables c past).fetched l.queue) c.sq_size (Verdict.taken_entries l.verdict))
              ∙ (λ z. record {
                size = c.sq_size;
                head = ((tables c past).fetched (here z)
                    + cond (sym (eq-eqb l.queue (suc i) here) z) (Verdict.taken_entries l.verdict) 0) % c.sq_size;
                waiting = drop (cond (sym (eq-eqb l.queue (suc i) here) z) (Verdict.taken_entries l.verdict) 0)
                    ((tables c past).waiting (here z));
              })

          others : (q : ℕ) → q ≢ i
              → checked_submission_ring c (tables_after c (tables c past) (Entry.Fetch l)) (suc q)
              ≡ checked_submission_ring c (tables c past) (suc q)
          others q ne =
              let no = ne_eqb l.queue (suc q) (apart c.pairs l.queue i q place ne) in
              (λ z. record {
                size = c.sq_size;
                head = ((tables c past).fetched (suc q) + cond (no z) (Verdict.taken_entries l.verdict) 0) % c.sq_size;
                waiting = drop (cond (no z) (Verdict.taken_entries l.verdict) 0) ((tables c past).waiting (suc q));
              })
              ∙ ap (λ m. record { size = c.sq_size; head = m % c.sq_size; waiting = (tables c past).waiting (suc q) })
              (plus_zero ((tables c past).fetched (suc q)))
            where
              plus_zero : (m : ℕ) → m + 0 ≡ m
              plus_zero m = omega arith

          flight_own : x ≡ flight_in c (tables_after c (tables c past) (Entry.Fetch l)) l.ticket
          flight_own =
              is_x
              ∙ (λ z. record {
                ticket = l.ticket;
                flight = just_fetched (record {
                  queue = l.queue;
                  commands = (is_commands ∙ (λ w. take (count w) (waiting_is w))) z;
                  verdict = l.verdict;
                });
                units = units_are z;
              })
              ∙ ap (λ b. record {
                ticket = l.ticket;
                flight = cond b (just_fetched (fetched_by (tables c past) l)) (flight past l.ticket);
                units = units c (cond b (just_fetched (fetched_by (tables c past) l)) (flight past l.ticket)).ticket;
              })
              (sym (eq-eqb l.ticket l.ticket refl))

          flight_others : (u : ℕ) → u ≢ l.ticket
              → flight_in c (tables_after c (tables c past) (Entry.Fetch l)) u ≡ flight_in c (tables c past) u
          flight_others u ne = ap (λ b. record {
            ticket = u;
            flight = cond b (just_fetched (fetched_by (tables c past) l)) (flight past u);
            units = units c (cond b (just_fetched (fetched_by (tables c past) l)) (flight past u)).ticket;
          })
              (ne_eqb u l.ticket ne)
