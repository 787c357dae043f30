-- What is kept of a history and a trace with delays, after one more entry.
use Rattle.std.proofs.Common.{◌≡◌, ℕ, suc, ◌+◌, ◌-◌, ◌<◌, ◌≤◌, Bool, true, false, cond, List, [], ◌∷◌, ◌++◌, length}
use Rattle.std.proofs.Common.{Option, Some, None, slice_get, refl, sym, ap, ◌∙◌, subst, arith, inl, inr}
use mathlib.Core.List.{reverse}
use Rattle.std.proofs.lemmas.List.{length-reverse, reverse-append}
use Rattle.std.proofs.lemmas.Option.{slice_get_past}
use Rattle.nvme_model.specs.History.{Past}
use Rattle.nvme_model.specs.Legal.{IsLegal}
use Rattle.nvme_model.specs.declared.config.ConfigNumbers.{ConfigNumbers}
use Rattle.nvme_model.specs.declared.entry.Entry.{Entry}
use Rattle.trace.specs.Aside.{aside_pair, is_aside, own}
use Rattle.trace.specs.Observed.{observed, shown, with_shown}
use Rattle.trace.specs.declared.options.TraceOptions.{TraceOptions}
use Rattle.trace.specs.declared.seen.Seen.{Seen}
use Rattle.witness_check.specs.Compared.{Compared, IsComparedTo, IsSeenTo, SaysNext}
use Rattle.witness_check.specs.Delayed.{is_reap, lane}
use Rattle.witness_check.specs.Delays.{DelaysRun, DiffersNext, IsDelayedTo, IsInStep, IsNext, IsReach, IsSoFar}
use Rattle.witness_check.specs.Delays.{SeenDiffers, lanes_of, thing_there, turned_or}
use Rattle.witness_check.specs.Differing.{DiffersBehind, StandsFor}
use Rattle.witness_check.specs.Lanes.{AreLanes, LanesRun}
use Rattle.witness_check.specs.declared.difference.Difference.{Difference}
use Rattle.witness_check.specs.declared.difference.Difference.TheVariants.{Batch, Completion, Contents, Data}
use Rattle.witness_check.specs.declared.difference.Difference.TheVariants.{HistoryEnds, Kind, Order, Queue, TraceEnds}
use Rattle.witness_check.proofs.Comparing.{no_place}
use Rattle.witness_check.proofs.Delaying.{compared_more, good_before, hidden_alike, shown_differs, so_far_alike}
use Rattle.witness_check.proofs.Delaying.{stands_more, stands_whole, stays_unlike}
use Rattle.witness_check.proofs.Judging.{stands_long}
use Rattle.witness_check.proofs.Reaching.{not_turned, stands_next, turned_before}

-- a Reap that isn't turned keeps what differs
plain : (d : Difference) → turned_or false (Some d) ≡ Some d
plain TraceEnds = refl
plain HistoryEnds = refl
plain Kind = refl
plain Queue = refl
plain Batch = refl
plain Completion = refl
plain Data = refl
plain Contents = refl
plain Order = refl

last_there : (xs : List Seen) (t : Seen) (n : ℕ) → length xs ≡ n → slice_get (xs ++ t ∷ []) n ≡ Some t
last_there [] t n e = ap (slice_get (t ∷ [])) (sym e)
last_there (x ∷ xs) t n e = ap (slice_get (x ∷ (xs ++ t ∷ []))) (sym e) ∙ last_there xs t (length xs) refl

-- what the comparison makes of the entry, where the trace has this for it
abbrev pub Takes : TraceOptions → ConfigNumbers → (trace : List Seen) → Past → Entry → DelaysRun → Compared
    → Option ℕ → Bool → Type 0
Takes o c trace past e x y place b =
    (lines : List Seen) → IsComparedTo o c lines past x.compared
    → SaysNext lines x.compared (thing_there trace place b) → IsComparedTo o c lines (e ∷ past) y

-- what is kept then
abbrev pub After : DelaysRun → LanesRun → Compared → (reach number : ℕ) → Option Difference → DelaysRun
After x ls y reach number unlike =
    record { compared = y; aside = x.aside; lanes = ls; reach = reach; number = number; unlike = unlike }

module _ (o : TraceOptions) (c : ConfigNumbers) (trace : List Seen) (past : Past) (e : Entry) (x : DelaysRun)
    (ls : LanesRun) (y : Compared) (h : IsDelayedTo o c trace past x) where
  abbrev a : Option ℕ
  a = aside_pair o c

  abbrev seen : List Seen
  seen = observed c past

  abbrev came : List Seen
  came = h.came

  -- ---- behind something that differs

  pub differs_on : (place : Option ℕ) (b : Bool) (d : Difference) → x.unlike ≡ Some d
      → Takes o c trace past e x y place b
      → IsDelayedTo o c trace (e ∷ past) (After x ls y x.reach x.number x.unlike)
  differs_on place b d is takes =
      record {
        came = came;
        compared = g;
        apart = h.apart;
        so_far = λ good. subst (λ u. IsSoFar o c trace (observed c (e ∷ past)) came (After x ls y x.reach x.number
            x.unlike) u) (sym is) (later good);
      }
    where
      differ_more : (s : Option Seen) (n : ℕ) → SeenDiffers o a trace seen n d
          → SeenDiffers o a trace (with_shown s seen) n d
      differ_more None n w = w
      differ_more (Some s) n w =
          (s ∷ w.0, w.1, w.2, w.3, ap (λ (l : List Seen). s ∷ l) w.4, w.5, w.6, w.7)

      before : x.compared.bad ≡ None → IsSoFar o c trace seen came x (Some d)
      before was = subst (λ u. IsSoFar o c trace seen came x u) is (h.so_far was)

      g : IsComparedTo o c (reverse came) (e ∷ past) y
      g = takes (reverse came) h.compared (λ was alike. absurd ((before was).0 alike))

      later : y.bad ≡ None → IsSoFar o c trace (observed c (e ∷ past)) came (After x ls y x.reach x.number x.unlike)
          (Some d)
      later good =
          let was = good_before o c past x.compared (reverse came) e y g good h.compared in
          let w = before was in (
            stays_unlike o c past x.compared (reverse came) e y h.compared was w.0 g good,
            w.1,
            w.2,
            differ_more (shown c past e) w.1 w.3,
          )

  -- ---- behind a bad entry

  pub bad_on : (place : Option ℕ) (b : Bool) (k reach number : ℕ) (unlike : Option Difference)
      → x.compared.bad ≡ Some k → Takes o c trace past e x y place b
      → IsDelayedTo o c trace (e ∷ past) (After x ls y reach number unlike)
  bad_on place b k reach number unlike is takes =
      record {
        came = came;
        compared = g;
        apart = h.apart;
        so_far = λ good. absurd (never (good_before o c past x.compared (reverse came) e y g good h.compared));
      }
    where
      never : x.compared.bad ≡ None → ⊥
      never good = let w : Some k ≡ None = sym is ∙ good in cc

      g : IsComparedTo o c (reverse came) (e ∷ past) y
      g = takes (reverse came) h.compared (λ was alike. absurd (never was))

  -- ---- behind what is alike

  module _ (was : x.compared.bad ≡ None) (k : IsInStep c trace came x) where
    stands : StandsFor o a seen (reverse came) (length came)
    stands = so_far_alike o c past x.compared came h.compared was k.alike k.next

    own_long : length (own a seen) ≡ length came
    own_long = stands_long o a (reverse came) seen (length came) stands

    says_none : SaysNext (reverse came) x.compared None
    says_none _ _ = slice_get_past (reverse came) (x.compared.next - 1) (omega (arith, k.next, length-reverse came))

    says_some : (t : Seen) → SaysNext (reverse (t ∷ came)) x.compared (Some t)
    says_some t _ _ =
        ap (λ (xs : List Seen). slice_get xs (x.compared.next - 1)) (reverse-append (t ∷ []) came)
        ∙ last_there (reverse came) t (x.compared.next - 1) (omega (arith, k.next, length-reverse came))

    -- where nothing differs, so many lines stand for what was seen
    next_is : (lines : List Seen) → IsComparedTo o c lines (e ∷ past) y → y.bad ≡ None → y.unlike ≡ None
        → (y.next ≡ length (own a (observed c (e ∷ past))) + 1)
        × (length (own a (observed c (e ∷ past))) ≤ length lines)
    next_is lines g good alike =
        let s = subst (λ u. IsSeenTo o a lines (observed c (e ∷ past)) y.next y.out u) alike (g.seen good) in
        let n = stands_long o a lines (observed c (e ∷ past)) s.0 s.3 in
        (omega (arith, s.1, n), omega (arith, s.3.0, n))

    -- hosts see nothing of it
    pub hidden_on : shown c past e ≡ None → AreLanes (lanes_of c) trace came ls → Takes o c trace past e x y None false
        → IsDelayedTo o c trace (e ∷ past) (After x ls y x.reach (length trace + 1) (turned_or false y.unlike))
    hidden_on none lanes takes =
        record { came = came; compared = g; apart = h.apart; so_far = λ good. by y.unlike refl good }
      where
        g : IsComparedTo o c (reverse came) (e ∷ past) y
        g = takes (reverse came) h.compared says_none

        same : observed c (e ∷ past) ≡ seen
        same = ap (λ s. with_shown s seen) none

        by : (w : Option Difference) → y.unlike ≡ w → y.bad ≡ None
            → IsSoFar o c trace (observed c (e ∷ past)) came (After x ls y x.reach (length trace + 1) (turned_or false
            y.unlike)) (turned_or false w)
        by None is good =
            record {
              alike = is;
              next = (next_is (reverse came) g good is).0 ∙ ap (λ (s : List Seen). length (own a s) + 1) same
                  ∙ ap (λ n. n + 1) own_long;
              each = k.each;
              own = k.own;
              places = lanes;
              reached = k.reached;
            }
        by (Some d) is good =
            let s = subst (λ u. IsSeenTo o a (reverse came) (observed c (e ∷ past)) y.next y.out u) is (g.seen good) in
            absurd (hidden_alike o a (reverse came) seen (length came) stands y.next y.out d
            (subst (λ (xs : List Seen). IsSeenTo o a (reverse came) xs y.next y.out (Some d)) same s))

    module _ (s : Seen) (there : shown c past e ≡ Some s) where
      more_seen : observed c (e ∷ past) ≡ s ∷ seen
      more_seen = ap (λ t. with_shown t seen) there

      -- what differs at it
      differs_here : (lines : List Seen) (d : Difference) → IsComparedTo o c lines (e ∷ past) y → y.bad ≡ None
          → y.unlike ≡ Some d → StandsFor o a seen lines (length came)
          → DiffersBehind o a seen s (slice_get lines (length came)) d
      differs_here lines d g good is old =
          shown_differs o a lines seen (length came) old s y.next y.out d
          (subst (λ (xs : List Seen). IsSeenTo o a lines xs y.next y.out (Some d)) more_seen
          (subst (λ u. IsSeenTo o a lines (observed c (e ∷ past)) y.next y.out u) is (g.seen good)))

      nothing_next : slice_get (reverse came) (length came) ≡ None
      nothing_next = slice_get_past (reverse came) (length came) (omega (arith, length-reverse came))

      -- it is told
      told : (unlike : Option Difference) (reach n : ℕ) (lines : List Seen) (d : Difference) → (y.unlike ≡ None → ⊥)
          → DiffersNext o a trace seen came s n d
          → IsSoFar o c trace (observed c (e ∷ past)) lines (After x ls y reach (n + 1) unlike) (Some d)
      told unlike reach n lines d some differs = (
        some,
        n,
        refl,
        ([], seen, came, s, more_seen, stands_whole o a seen came (length came) refl stands, k.each, differs),
      )

      unlike_some : (d : Difference) → y.unlike ≡ Some d → y.unlike ≡ None → ⊥
      unlike_some d is alike = let w : Some d ≡ None = sym is ∙ alike in cc

      -- of the queue pair that the trace doesn't have
      pub aside_on : is_aside a s ≡ true → AreLanes (lanes_of c) trace came ls → Takes o c trace past e x y None false
          → IsDelayedTo o c trace (e ∷ past) (After x ls y x.reach (length trace + 1) (turned_or false y.unlike))
      aside_on aside lanes takes =
          record { came = came; compared = g; apart = h.apart; so_far = λ good. by y.unlike refl good }
        where
          g : IsComparedTo o c (reverse came) (e ∷ past) y
          g = takes (reverse came) h.compared says_none

          same : own a (observed c (e ∷ past)) ≡ own a seen
          same = ap (own a) more_seen ∙ ap (λ b. cond b (own a seen) (s ∷ own a seen)) aside

          at : (d : Difference) (next : Option Seen) → DiffersBehind o a seen s next d
              → DiffersNext o a trace seen came s (length trace) d
          at d next (inl w) = (None, λ _. refl, λ f. absurd (let v : true ≡ false = sym aside ∙ f in cc), inl w)
          at d next (inr w) = absurd (let v : true ≡ false = sym aside ∙ w.1 in cc)

          by : (w : Option Difference) → y.unlike ≡ w → y.bad ≡ None
              → IsSoFar o c trace (observed c (e ∷ past)) came (After x ls y x.reach (length trace + 1) (turned_or
              false y.unlike)) (turned_or false w)
          by None is good =
              record {
                alike = is;
                next = (next_is (reverse came) g good is).0 ∙ ap (λ (s : List Seen). length s + 1) same
                    ∙ ap (λ n. n + 1) own_long;
                each = k.each;
                own = k.own;
                places = lanes;
                reached = k.reached;
              }
          by (Some d) is good =
              subst (λ u. IsSoFar o c trace (observed c (e ∷ past)) came (After x ls y x.reach (length trace + 1)
              (turned_or false y.unlike)) u) (sym (plain d))
              (told (turned_or false y.unlike) x.reach (length trace) came d (unlike_some d is)
              (at d _ (differs_here (reverse came) d g good is stands)))

      module _ (mine : is_aside a s ≡ false) where
        longer : length (own a (observed c (e ∷ past))) ≡ length came + 1
        longer =
            ap (λ (xs : List Seen). length (own a xs)) more_seen
            ∙ ap (λ b. length (cond b (own a seen) (s ∷ own a seen))) mine ∙ ap suc own_long
            ∙ (let w : suc (length came) ≡ length came + 1 = omega arith in w)

        -- something differs where nothing stands for it
        not_alike : IsComparedTo o c (reverse came) (e ∷ past) y → y.bad ≡ None → y.unlike ≡ None → ⊥
        not_alike g good alike =
            omega (arith, (next_is (reverse came) g good alike).1, longer, length-reverse came)

        -- the trace has no such line
        pub missing_on : (IsLegal c (e ∷ past) → IsNext trace came (lane s) (length trace) None)
            → Takes o c trace past e x y None false
            → IsDelayedTo o c trace (e ∷ past) (After x ls y x.reach (length trace + 1) (turned_or false y.unlike))
        missing_on next takes =
            record { came = came; compared = g; apart = h.apart; so_far = λ good. by y.unlike refl good }
          where
            g : IsComparedTo o c (reverse came) (e ∷ past) y
            g = takes (reverse came) h.compared says_none

            at : (d : Difference) → IsLegal c (e ∷ past) → DiffersBehind o a seen s None d
                → DiffersNext o a trace seen came s (length trace) d
            at d legal (inl w) = (None, λ _. refl, λ _. next legal, inl w)
            at d legal (inr w) = (None, λ _. refl, λ _. next legal, inr w)

            by : (w : Option Difference) → y.unlike ≡ w → y.bad ≡ None
                → IsSoFar o c trace (observed c (e ∷ past)) came (After x ls y x.reach (length trace + 1) (turned_or
                false y.unlike)) (turned_or false w)
            by None is good = absurd (not_alike g good is)
            by (Some d) is good =
                let legal : IsLegal c (e ∷ past) = no_place c (e ∷ past) (sym good ∙ g.first) in
                subst (λ u. IsSoFar o c trace (observed c (e ∷ past)) came (After x ls y x.reach (length trace + 1)
                (turned_or false y.unlike)) u) (sym (plain d))
                (told (turned_or false y.unlike) x.reach (length trace) came d (unlike_some d is)
                (at d legal (subst (λ n. DiffersBehind o a seen s n d) nothing_next
                (differs_here (reverse came) d g good is stands))))

        -- it is a Reap that stands before a Publish that came
        pub turned_on : (p reach : ℕ) (t : Seen) → is_reap s ≡ true → p < x.reach
            → (IsLegal c (e ∷ past) → IsNext trace came (lane s) p (Some t)) → Takes o c trace past e x y (Some p) true
            → IsDelayedTo o c trace (e ∷ past) (After x ls y reach (p + 1) (turned_or true y.unlike))
        turned_on p reach t reaps low next takes =
            record { came = came; compared = g; apart = h.apart; so_far = λ good. by y.unlike refl good }
          where
            g : IsComparedTo o c (reverse came) (e ∷ past) y
            g = takes (reverse came) h.compared says_none

            new : DelaysRun
            new = After x ls y reach (p + 1) (turned_or true y.unlike)

            not_aside : is_aside a s ≡ true → p ≡ length trace
            not_aside f = absurd (let v : true ≡ false = sym f ∙ mine in cc)

            at : (d : Difference) → y.unlike ≡ Some d → IsLegal c (e ∷ past) → DiffersBehind o a seen s None d
                → IsSoFar o c trace (observed c (e ∷ past)) came new (turned_or true (Some d))
            at d is legal (inl w) =
                subst (λ (f : Difference). IsSoFar o c trace (observed c (e ∷ past)) came new (turned_or true (Some f)))
                (sym w.1)
                (told (turned_or true y.unlike) reach p came Contents (unlike_some d is)
                (Some t, not_aside, λ _. next legal, inl (w.0, refl)))
            at d is legal (inr w) =
                subst (λ (f : Difference). IsSoFar o c trace (observed c (e ∷ past)) came new (turned_or true (Some f)))
                (sym w.2)
                (told (turned_or true y.unlike) reach p came Order (unlike_some d is) (
                  Some t,
                  not_aside,
                  λ _. next legal,
                  inr (w.0, w.1, inl (reaps, turned_before trace came x.reach p k.reached low, refl)),
                ))

            by : (w : Option Difference) → y.unlike ≡ w → y.bad ≡ None
                → IsSoFar o c trace (observed c (e ∷ past)) came new (turned_or true w)
            by None is good = absurd (not_alike g good is)
            by (Some d) is good =
                let legal : IsLegal c (e ∷ past) = no_place c (e ∷ past) (sym good ∙ g.first) in
                at d is legal (subst (λ n. DiffersBehind o a seen s n d) nothing_next
                (differs_here (reverse came) d g good is stands))

        -- the trace has a line for it
        pub found_on : (p reach : ℕ) (t : Seen) → slice_get trace p ≡ Some t → (is_reap s ≡ true → x.reach ≤ p)
            → (IsLegal c (e ∷ past)
            → IsNext trace came (lane s) p (Some t) × (2 ≤ lane t) × (lane t < lanes_of c) × (is_reap s ≡ is_reap t)
            × AreLanes (lanes_of c) trace (t ∷ came) ls × IsReach trace (t ∷ came) reach)
            → Takes o c trace past e x y (Some p) false
            → IsDelayedTo o c trace (e ∷ past) (After x ls y reach (p + 1) (turned_or false y.unlike))
        found_on p reach t there behind next takes =
            record { came = t ∷ came; compared = g; apart = h.apart; so_far = λ good. by y.unlike refl good }
          where
            g : IsComparedTo o c (reverse (t ∷ came)) (e ∷ past) y
            g =
                takes (reverse (t ∷ came)) (compared_more o c past x.compared came t h.compared was k.alike)
                (λ was alike. says_some t was alike ∙ sym there)

            new : DelaysRun
            new = After x ls y reach (p + 1) (turned_or false y.unlike)

            not_aside : is_aside a s ≡ true → p ≡ length trace
            not_aside f = absurd (let v : true ≡ false = sym f ∙ mine in cc)

            is_next : slice_get (reverse (t ∷ came)) (length came) ≡ Some t
            is_next =
                ap (λ (xs : List Seen). slice_get xs (length came)) (reverse-append (t ∷ []) came)
                ∙ last_there (reverse came) t (length came) (length-reverse came)

            at : (d : Difference) → IsLegal c (e ∷ past) → DiffersBehind o a seen s (Some t) d
                → DiffersNext o a trace seen came s p d
            at d legal (inl w) = (Some t, not_aside, λ _. (next legal).0, inl w)
            at d legal (inr w) = (
              Some t,
              not_aside,
              λ _. (next legal).0,
              inr (
                w.0,
                w.1,
                inr (λ reaps. not_turned trace came x.reach p k.reached (behind reaps), w.2),
              ),
            )

            by : (w : Option Difference) → y.unlike ≡ w → y.bad ≡ None
                → IsSoFar o c trace (observed c (e ∷ past)) (t ∷ came) new (turned_or false w)
            by None is good =
                let legal : IsLegal c (e ∷ past) = no_place c (e ∷ past) (sym good ∙ g.first) in
                let n = next legal in
                let own_next = subst (λ l. IsNext trace came l p (Some t)) (sym n.0.1) n.0 in
                record {
                  alike = is;
                  next = (next_is (reverse (t ∷ came)) g good is).0 ∙ ap (λ n. n + 1) (longer
                      ∙ (let w : length came + 1 ≡ length (t ∷ came) = omega arith in w));
                  each = (
                    stands_next trace came x.reach p t k.reached own_next (λ reaps. behind (n.3 ∙ reaps)),
                    k.each,
                  );
                  own = (n.1, n.2, k.own);
                  places = n.4;
                  reached = n.5;
                }
            by (Some d) is good =
                let legal : IsLegal c (e ∷ past) = no_place c (e ∷ past) (sym good ∙ g.first) in
                subst (λ u. IsSoFar o c trace (observed c (e ∷ past)) (t ∷ came) new u) (sym (plain d))
                (told (turned_or false y.unlike) reach p (t ∷ came) d (unlike_some d is)
                (at d legal (subst (λ n. DiffersBehind o a seen s n d) is_next
                (differs_here (reverse (t ∷ came)) d g good is (stands_more o a seen came t (length came) stands)))))
