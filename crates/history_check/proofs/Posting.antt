-- What a Post finds, and what is kept after it.
use Rattle.std.proofs.Common.{◌≡◌, ◌≢◌, ℕ, suc, ◌*◌, ◌+◌, ◌-◌, ◌%◌, ◌/◌, ◌≤◌, ◌<◌, ◌^◌, ◌==◌, Bool, true}
use Rattle.std.proofs.Common.{false, not, cond, List, [], ◌∷◌, ◌++◌, length, get_or, map, set, slice_get}
use Rattle.std.proofs.Common.{refl, sym, ap, ◌∙◌, subst, arith, eq-eqb, ne_eqb, ltb-true}
use Rattle.std.proofs.Common.{add-one}
use Rattle.std.specs.List.{count_by, filter, remove}
use Rattle.std.specs.List.Sorted.{IsPermutation}
use Rattle.std.proofs.lemmas.List.{append-nil, length-map, map-append}
use Rattle.std.proofs.Math.Nat.{mod-lt}
use Rattle.history_check.specs.Contents.{post_fits_at}
use Rattle.history_check.proofs.TicketPosting.{by_rings}
use Rattle.rings.specs.Used.{AreInUse, AreUsed, UsedCids, is_used}
use Rattle.rings.proofs.CidCounts.{count_append, count_cons, is_among, one_less, used_at, used_set}
use Rattle.history_check.specs.Judged.{flies, in_use, judged, checked_owed, owes_nothing, post_fits_by}
use Rattle.history_check.specs.Tables.{CheckedTicket, flight, tables}
use Rattle.history_check.specs.Taken.{flies_on, posted_flight, tables_after}
use Rattle.nvme_model.specs.Bits.{bit}
use Rattle.nvme_model.specs.Config.{completion_queue}
use Rattle.nvme_model.specs.History.{Past}
use Rattle.nvme_model.specs.Operations.{units}
use Rattle.nvme_model.specs.Tickets
use Rattle.nvme_model.specs.Tickets.{cids}
use Rattle.nvme_model.specs.declared.config.ConfigNumbers.{ConfigNumbers}
use Rattle.nvme_model.specs.declared.entry.Entry.{Entry}
use Rattle.nvme_model.specs.declared.entry.PostLine.{PostLine}
use Rattle.nvme_model.proofs.NextPost.{commands_few}
use Rattle.nvme_model.proofs.Accepted.{accepted}
use Rattle.rings.specs.Completions.{CompletionRing, is_full, posted_ring}
use Rattle.rings.specs.Submissions.{SubmissionRing}
use Rattle.rings.specs.declared.completion_ring.Completion.{Completion}
use Rattle.ticket_laws.specs.Standing.{flying}
use Rattle.ticket_laws.proofs.Counts.{taken_some}
use Rattle.ticket_laws.proofs.Flying.{flying_rises}
use Rattle.history_check.specs.Kept.{IsCheckerState, CheckerState, flight_in}
use Rattle.history_check.specs.Rings.{bare, checked_completion_ring, checked_submission_ring}
use Rattle.history_check.specs.Steps.{Took}
use Rattle.history_check.specs.declared.fields.CheckedInFlight.{CheckedInFlight}
use Rattle.history_check.proofs.Flights.{IsThere, less_one, set_place}
use Rattle.history_check.proofs.InUse.{in_use_posted}
use Rattle.history_check.proofs.Following.{none_flies, took_not}
use Rattle.history_check.proofs.Rings.{IsPlace, apart, ring_at}
use Rattle.history_check.proofs.PostRing.{form_full, form_unfit, post_form, ring_next}
use Rattle.rings.proofs.Tables.{IsTable-set}
use Rattle.nvme_model.proofs.TicketQueues.{HasQueue, queue_there, ticket_queue}

module _ (c : ConfigNumbers) (past : Past) (k : CheckerState) (keeps : IsCheckerState c past k) (p : PostLine) where
  -- its ticket isn't in flight
  pub post_missing : (after : CheckerState) → flies ((tables c past).flight p.ticket) ≡ false
      → Took c past (Entry.Post p) false after
  post_missing after e = took_not c past (Entry.Post p) after
      (none_flies (flies ((tables c past).flight p.ticket)) _ _ e)

  module _ (i : ℕ) (x : CheckedInFlight) (there : IsThere c past p.ticket i x) where
    commands_some : 1 ≤ length (Tickets.ticket past p.ticket).commands
    commands_some = omega (arith, ltb-true _ _ there.flies)

    queue_is : HasQueue c x.flight.ticket.queue
    queue_is = subst (λ (y : CheckedInFlight). HasQueue c y.flight.ticket.queue) (sym there.is)
        (queue_there c _ (ticket_queue c past p.ticket keeps.legal_so_far commands_some))

    -- the queues' places
    pub post_low : 1 ≤ x.flight.ticket.queue
    post_low = queue_is.low

    pub post_sq_place : IsPlace c.pairs x.flight.ticket.queue (x.flight.ticket.queue - 1)
    post_sq_place = record { next = omega (arith, queue_is.low); within = omega (arith, queue_is.low, queue_is.high) }

    pub post_cq_place : IsPlace c.cqs (completion_queue c x.flight.ticket.queue) ((x.flight.ticket.queue - 1) % c.cqs)
    post_cq_place = record {
      next = refl;
      within = mod-lt (x.flight.ticket.queue - 1) (accepted c keeps.accepted).some_cqs;
    }

    -- few completions were posted
    pub post_few : x.flight.posts < 2 ^ 7
    post_few =
        subst (λ (y : CheckedInFlight). y.flight.posts < 2 ^ 7) (sym there.is)
        (omega (
          arith,
          ltb-true _ _ there.flies,
          commands_few past p.ticket,
          (taken_some (Tickets.ticket past p.ticket).verdict).1,
        ))

    -- as many units
    pub post_count : (n : ℕ) → n ≡ length x.units → n ≡ length (units c x.flight.ticket)
    post_count n e = e ∙ ap (λ (y : CheckedInFlight). length y.units) there.is
        ∙ ap (λ (y : CheckedInFlight). length (units c y.flight.ticket)) (sym there.is)

    rule_is : judged c (tables c past) (Entry.Post p)
        ≡ post_form true (owes_nothing c (flight past p.ticket))
        (length ((tables c past).unreaped (completion_queue c (flight past p.ticket).ticket.queue)) == c.cq_size - 1)
        (post_fits_by c (tables c past) p
        (slice_get (checked_owed c (flight past p.ticket)) (flight past p.ticket).posts))
    rule_is = ap (λ b. post_form b (owes_nothing c (flight past p.ticket))
        (length ((tables c past).unreaped (completion_queue c (flight past p.ticket).ticket.queue)) == c.cq_size - 1)
        (post_fits_by c (tables c past) p
        (slice_get (checked_owed c (flight past p.ticket)) (flight past p.ticket).posts)))
        there.flies

    flight_is : x.flight ≡ flight past p.ticket
    flight_is = ap (λ (y : CheckedInFlight). y.flight) there.is

    -- one ring is at one place
    pub post_same : (a b : CompletionRing) → a ≡ get_or k.completion ((x.flight.ticket.queue - 1) % c.cqs) a
        → b ≡ get_or k.completion ((x.flight.ticket.queue - 1) % c.cqs) b → a ≡ b
    post_same a b e f =
        ring_at (checked_completion_ring c (tables c past)) c.cqs (completion_queue c x.flight.ticket.queue)
        ((x.flight.ticket.queue - 1) % c.cqs) k.completion a keeps.shows.cq_rings post_cq_place e
        ∙ sym (ring_at (checked_completion_ring c (tables c past)) c.cqs (completion_queue c x.flight.ticket.queue)
        ((x.flight.ticket.queue - 1) % c.cqs) k.completion b keeps.shows.cq_rings post_cq_place f)

    -- nothing is owed yet
    pub post_nothing : (after : CheckerState) → owes_nothing c x.flight ≡ true → Took c past (Entry.Post p) false after
    post_nothing after e = took_not c past (Entry.Post p) after
        (rule_is ∙ ap (λ b. post_form true b
        (length ((tables c past).unreaped (completion_queue c (flight past p.ticket).ticket.queue)) == c.cq_size - 1)
        (post_fits_by c (tables c past) p
        (slice_get (checked_owed c (flight past p.ticket)) (flight past p.ticket).posts)))
        (sym (ap (owes_nothing c) flight_is) ∙ e))

    module _ (sr : SubmissionRing) (cr : CompletionRing)
        (sr_is : sr ≡ get_or k.submission (x.flight.ticket.queue - 1) sr)
        (cr_is : cr ≡ get_or k.completion ((x.flight.ticket.queue - 1) % c.cqs) cr) where
      pub sq_is : sr ≡ checked_submission_ring c (tables c past) (flight past p.ticket).ticket.queue
      sq_is = ring_at (checked_submission_ring c (tables c past)) c.pairs x.flight.ticket.queue
          (x.flight.ticket.queue - 1)
          k.submission sr keeps.shows.sq_rings post_sq_place sr_is
          ∙ ap (λ (f : CheckedTicket). checked_submission_ring c (tables c past) f.ticket.queue) flight_is

      pub cq_is : cr ≡ checked_completion_ring c (tables c past)
          (completion_queue c (flight past p.ticket).ticket.queue)
      cq_is = ring_at (checked_completion_ring c (tables c past)) c.cqs (completion_queue c x.flight.ticket.queue)
          ((x.flight.ticket.queue - 1) % c.cqs) k.completion cr keeps.shows.cq_rings post_cq_place cr_is
          ∙ ap (λ (f : CheckedTicket). checked_completion_ring c (tables c past)
          (completion_queue c f.ticket.queue)) flight_is

      pub full_is : is_full cr
          ≡ (length ((tables c past).unreaped (completion_queue c (flight past p.ticket).ticket.queue)) == c.cq_size
          - 1)
      full_is = ap is_full cq_is
          ∙ ap (λ n. n == c.cq_size - 1)
          (length-map ((tables c past).unreaped (completion_queue c (flight past p.ticket).ticket.queue)) bare)

      fits_is : post_fits_at sr.head (bit cr.phase) x.flight p
          (slice_get (checked_owed c x.flight) x.flight.posts)
          ≡ post_fits_by c (tables c past) p
          (slice_get (checked_owed c (flight past p.ticket)) (flight past p.ticket).posts)
      fits_is =
          (λ z. post_fits_at (sq_is z).head (bit (cq_is z).phase) (flight_is z) p
          (slice_get (checked_owed c (flight_is z)) (flight_is z).posts))
          ∙ sym (by_rings c (tables c past) p
          (slice_get (checked_owed c (flight past p.ticket)) (flight past p.ticket).posts))

      -- it says something else
      pub post_unfit : (after : CheckerState)
          → post_fits_at sr.head (bit cr.phase) x.flight p (slice_get (checked_owed c x.flight) x.flight.posts)
          ≡ false
          → Took c past (Entry.Post p) false after
      post_unfit after e = took_not c past (Entry.Post p) after
          (rule_is ∙ ap (post_form true (owes_nothing c (flight past p.ticket))
          (length ((tables c past).unreaped (completion_queue c (flight past p.ticket).ticket.queue)) == c.cq_size - 1))
          (sym fits_is ∙ e)
          ∙ form_unfit (owes_nothing c (flight past p.ticket))
          (length ((tables c past).unreaped (completion_queue c (flight past p.ticket).ticket.queue)) == c.cq_size
          - 1))

      -- the queue is full
      pub post_full : (after : CheckerState) → is_full cr ≡ true → Took c past (Entry.Post p) false after
      post_full after e = took_not c past (Entry.Post p) after
          (rule_is ∙ ap (λ b. post_form true (owes_nothing c (flight past p.ticket)) b
          (post_fits_by c (tables c past) p
          (slice_get (checked_owed c (flight past p.ticket)) (flight past p.ticket).posts))) (sym full_is ∙ e)
          ∙ form_full (owes_nothing c (flight past p.ticket))
          (post_fits_by c (tables c past) p
          (slice_get (checked_owed c (flight past p.ticket)) (flight past p.ticket).posts)))

      module _ (owes : owes_nothing c x.flight ≡ false)
          (fits : post_fits_at sr.head (bit cr.phase) x.flight p
          (slice_get (checked_owed c x.flight) x.flight.posts)
          ≡ true) (room : is_full cr ≡ false) (y : CompletionRing)
          (more : y ≡ posted_ring cr (bare p)) (cid : ℕ) (cid_is : cid ≡ get_or (cids x.flight.ticket) x.flight.posts 0)
          (u v : UsedCids) (used : u ≡ get_or k.in_use (x.flight.ticket.queue - 1) u)
          (less : is_used cid u.cids ≡ true → IsPermutation u.cids (cid ∷ v.cids)) (kept_room : v.room ≡ u.room) where
        answer_is : judged c (tables c past) (Entry.Post p) ≡ true
        answer_is = rule_is ∙ (λ z.
            post_form true ((sym (ap (owes_nothing c) flight_is) ∙ owes) z) ((sym full_is ∙ room) z)
            ((sym fits_is ∙ fits) z))

        ring_own : y ≡ checked_completion_ring c (tables_after c (tables c past) (Entry.Post p))
            (suc ((x.flight.ticket.queue - 1) % c.cqs))
        ring_own =
            let q = completion_queue c (flight past p.ticket).ticket.queue in
            let here : q ≡ suc ((x.flight.ticket.queue - 1) % c.cqs) =
            ap (λ (f : CheckedTicket). completion_queue c f.ticket.queue) (sym flight_is)
            ∙ add-one ((x.flight.ticket.queue - 1) % c.cqs) in
            more ∙ ap (λ (z : CompletionRing). posted_ring z (bare p)) cq_is
            ∙ ring_next c.cq_size ((tables c past).posts q) (bare p) (map bare ((tables c past).unreaped q))
            (omega (arith, (accepted c keeps.accepted).least_cq_slots))
            ∙ ap (λ (xs : List Completion). record {
              size = c.cq_size;
              tail = ((tables c past).posts q + 1) % c.cq_size;
              phase = (((tables c past).posts q + 1) / c.cq_size) % 2 == 0;
              waiting = xs;
            })
            (sym (map-append bare ((tables c past).unreaped q) (p ∷ [])))
            ∙ (λ z. record {
              size = c.cq_size;
              tail = ((tables c past).posts (here z)
                  + cond (sym (eq-eqb q (suc ((x.flight.ticket.queue - 1) % c.cqs)) here) z) 1 0) % c.cq_size;
              phase = (((tables c past).posts (here z)
                  + cond (sym (eq-eqb q (suc ((x.flight.ticket.queue - 1) % c.cqs)) here) z) 1 0) / c.cq_size) % 2 == 0;
              waiting = map bare ((tables c past).unreaped (here z)
                  ++ cond (sym (eq-eqb q (suc ((x.flight.ticket.queue - 1) % c.cqs)) here) z) (p ∷ []) []);
            })

        ring_others : (n : ℕ) → n ≢ (x.flight.ticket.queue - 1) % c.cqs
            → checked_completion_ring c (tables_after c (tables c past) (Entry.Post p)) (suc n)
            ≡ checked_completion_ring c (tables c past) (suc n)
        ring_others n ne =
            let q = completion_queue c (flight past p.ticket).ticket.queue in
            let no = ne_eqb q (suc n)
            (λ e. apart c.cqs (completion_queue c x.flight.ticket.queue) ((x.flight.ticket.queue - 1) % c.cqs) n
            post_cq_place ne (ap (λ (f : CheckedTicket). completion_queue c f.ticket.queue) flight_is ∙ e)) in
            (λ z. record {
              size = c.cq_size;
              tail = ((tables c past).posts (suc n) + cond (no z) 1 0) % c.cq_size;
              phase = (((tables c past).posts (suc n) + cond (no z) 1 0) / c.cq_size) % 2 == 0;
              waiting = map bare ((tables c past).unreaped (suc n) ++ cond (no z) (p ∷ []) []);
            })
            ∙ (λ z. record {
              size = c.cq_size;
              tail = (plus_zero ((tables c past).posts (suc n)) z) % c.cq_size;
              phase = ((plus_zero ((tables c past).posts (suc n)) z) / c.cq_size) % 2 == 0;
              waiting = map bare (append-nil ((tables c past).unreaped (suc n)) z);
            })
          where
            plus_zero : (m : ℕ) → m + 0 ≡ m
            plus_zero m = omega arith

        flight_own : record x { flight = posted_flight x.flight }
            ≡ flight_in c (tables_after c (tables c past) (Entry.Post p)) p.ticket
        flight_own =
            ap (λ (z : CheckedInFlight). record z { flight = posted_flight z.flight }) there.is
            ∙ ap (λ b. record {
              ticket = p.ticket;
              flight = cond b (posted_flight (flight past p.ticket)) (flight past p.ticket);
              units = units c (cond b (posted_flight (flight past p.ticket)) (flight past p.ticket)).ticket;
            })
            (sym (eq-eqb p.ticket p.ticket refl))

        flight_others : (u : ℕ) → u ≢ p.ticket
            → flight_in c (tables_after c (tables c past) (Entry.Post p)) u ≡ flight_in c (tables c past) u
        flight_others u ne = ap (λ b. record {
          ticket = u;
          flight = cond b (posted_flight (flight past p.ticket)) (flight past u);
          units = units c (cond b (posted_flight (flight past p.ticket)) (flight past u)).ticket;
        })
            (ne_eqb u p.ticket ne)

        -- the CIDs in use on its queue, without its first
        fewer : (q : ℕ) (m : ℕ → Bool)
            → count_by m (in_use (tables c past) q) ≡ count_by m (cond (x.flight.ticket.queue == q) (cid ∷ []) [])
            + count_by m (in_use (tables_after c (tables c past) (Entry.Post p)) q)
        fewer q m =
            in_use_posted c past p i there.place there.flies q m
            ∙ (λ z. count_by m (cond ((sym flight_is z).ticket.queue == q)
            (((λ w. get_or (cids (sym flight_is w).ticket) (sym flight_is w).posts 0) ∙ sym cid_is) z ∷ []) [])
            + count_by m (in_use (tables_after c (tables c past) (Entry.Post p)) q))

        used_own : AreUsed (2 * c.jobs) (in_use (tables c past) x.flight.ticket.queue) u
        used_own = used_at c.pairs (2 * c.jobs) (in_use (tables c past)) k.in_use (x.flight.ticket.queue - 1)
            x.flight.ticket.queue u keeps.shows.in_use post_sq_place.next post_sq_place.within used

        one_fewer : (m : ℕ → Bool)
            → count_by m u.cids ≡ cond (m cid) 1 0
            + count_by m (in_use (tables_after c (tables c past) (Entry.Post p)) x.flight.ticket.queue)
        one_fewer m =
            used_own.cids m ∙ fewer x.flight.ticket.queue m
            ∙ ap (λ b. count_by m (cond b (cid ∷ []) [])
            + count_by m (in_use (tables_after c (tables c past) (Entry.Post p)) x.flight.ticket.queue))
            (eq-eqb x.flight.ticket.queue x.flight.ticket.queue refl)
            ∙ sym (count_append m (cid ∷ [])
            (in_use (tables_after c (tables c past) (Entry.Post p)) x.flight.ticket.queue))
            ∙ count_cons m cid (in_use (tables_after c (tables c past) (Entry.Post p)) x.flight.ticket.queue)

        used_after : AreInUse c.pairs (2 * c.jobs) (in_use (tables_after c (tables c past) (Entry.Post p)))
            (set k.in_use (x.flight.ticket.queue - 1) v)
        used_after =
            used_set c.pairs (2 * c.jobs) (in_use (tables c past))
            (in_use (tables_after c (tables c past) (Entry.Post p)))
            k.in_use (x.flight.ticket.queue - 1) v keeps.shows.in_use post_sq_place.within
            here others
          where
            here : AreUsed (2 * c.jobs)
                (in_use (tables_after c (tables c past) (Entry.Post p)) (suc (x.flight.ticket.queue - 1))) v
            here =
                let same : x.flight.ticket.queue ≡ suc (x.flight.ticket.queue - 1) = omega (arith, post_low) in
                subst (λ (q : ℕ). AreUsed (2 * c.jobs) (in_use (tables_after c (tables c past) (Entry.Post p)) q) v)
                same
                (record {
                  cids = λ m. omega (
                    arith,
                    one_fewer m,
                    one_less cid u.cids v.cids (less (is_among u cid _ (one_fewer (λ one. one == cid)))) m,
                  );
                  room = kept_room ∙ used_own.room;
                })

            others : (n : ℕ) → n ≢ x.flight.ticket.queue - 1 → (m : ℕ → Bool)
                → count_by m (in_use (tables_after c (tables c past) (Entry.Post p)) (suc n))
                ≡ count_by m (in_use (tables c past) (suc n))
            others n ne m =
                let off = ap (λ b. count_by m (cond b (cid ∷ []) []))
                (ne_eqb x.flight.ticket.queue (suc n)
                (λ (e : x.flight.ticket.queue ≡ suc n). ne (omega (arith, e)))) in
                omega (arith, fewer (suc n) m, off)

        -- what is kept then, with these tickets in flight
        took : (fs : List CheckedInFlight)
            → fs ≡ map (flight_in c (tables_after c (tables c past) (Entry.Post p)))
            (tables_after c (tables c past) (Entry.Post p)).flying
            → Took c past (Entry.Post p) true
            (record k {
              in_use = set k.in_use (x.flight.ticket.queue - 1) v;
              completion = set k.completion ((x.flight.ticket.queue - 1) % c.cqs) y;
              flights = fs;
            })
        took fs e = record {
          answer = sym answer_is;
          shows = λ _. record {
            blocks = keeps.shows.blocks;
            values = keeps.shows.values;
            sq_rings = keeps.shows.sq_rings;
            in_use = used_after;
            cq_rings = IsTable-set _
                (λ q. checked_completion_ring c (tables_after c (tables c past) (Entry.Post p)) (suc q)) c.cqs
                ((x.flight.ticket.queue - 1) % c.cqs) k.completion y keeps.shows.cq_rings post_cq_place.within ring_own
                ring_others;
            in_flight = e;
            ranges = keeps.shows.ranges;
            count = keeps.shows.count;
          };
        }

        -- it flies on
        pub post_on : (z : CheckedInFlight) → flies_on x.flight ≡ true
            → z ≡ record x { flight = posted_flight x.flight }
            → Took c past (Entry.Post p) true
            (record k {
              in_use = set k.in_use (x.flight.ticket.queue - 1) v;
              completion = set k.completion ((x.flight.ticket.queue - 1) % c.cqs) y;
              flights = set k.flights i z;
            })
        post_on z on is_z =
            took (set k.flights i z)
            (ap (λ (xs : List CheckedInFlight). set xs i z) keeps.shows.in_flight
            ∙ set_place (flight_in c (tables c past)) (flight_in c (tables_after c (tables c past) (Entry.Post p)))
            (flying past) i p.ticket z (flying_rises past) there.place (is_z ∙ flight_own) flight_others
            ∙ ap (λ b. map (flight_in c (tables_after c (tables c past) (Entry.Post p)))
            (cond b (flying past) (filter (λ t. not (t == p.ticket)) (flying past))))
            (sym (ap flies_on (sym flight_is) ∙ on)))

        -- or has its last
        pub post_off : (fs : List CheckedInFlight) → flies_on x.flight ≡ false → fs ≡ remove k.flights i
            → Took c past (Entry.Post p) true
            (record k {
              in_use = set k.in_use (x.flight.ticket.queue - 1) v;
              completion = set k.completion ((x.flight.ticket.queue - 1) % c.cqs) y;
              flights = fs;
            })
        post_off fs off is_fs =
            took fs
            (is_fs ∙ ap (λ (xs : List CheckedInFlight). remove xs i) keeps.shows.in_flight
            ∙ less_one (flight_in c (tables c past)) (flight_in c (tables_after c (tables c past) (Entry.Post p)))
            (flying past) i p.ticket (flying_rises past) there.place flight_others
            ∙ ap (λ b. map (flight_in c (tables_after c (tables c past) (Entry.Post p)))
            (cond b (flying past) (filter (λ t. not (t == p.ticket)) (flying past))))
            (sym (ap flies_on (sym flight_is) ∙ off)))
