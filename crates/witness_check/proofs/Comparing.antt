-- One more entry is compared with a trace.
use Rattle.std.proofs.Common.{◌≡◌, ℕ, ◌+◌, ◌-◌, ◌<◌, ◌&&◌, Bool, true, false, cond, List, [], ◌∷◌, get_or, length}
use Rattle.std.proofs.Common.{take, Option, Some, None, is_some, refl, sym, ap, ◌∙◌, subst, arith}
use mathlib.Core.List.{reverse}
use Rattle.std.proofs.lemmas.List.{reverse-append, reverse-reverse, take_more}
use Rattle.nvme_model.specs.FirstBad.{earlier_or, first_bad_of}
use Rattle.nvme_model.specs.History.{Past}
use Rattle.nvme_model.specs.Legal.{IsLegal, legal, may_follow}
use Rattle.nvme_model.specs.declared.config.ConfigNumbers.{ConfigNumbers}
use Rattle.nvme_model.specs.declared.entry.Entry.{Entry}
use Rattle.nvme_model.proofs.FirstBad.{none_is_legal}
use Rattle.trace.specs.Aside.{aside_pair}
use Rattle.trace.specs.Observed.{observed, shown, with_shown}
use Rattle.trace.specs.declared.options.TraceOptions.{TraceOptions}
use Rattle.trace.specs.declared.seen.Seen.{Seen}
use Rattle.witness_check.specs.Compared.{Compared, IsComparedTo, IsSeenTo, SaysNext, bad_after, next_after, out_after}
use Rattle.witness_check.specs.Compared.{unlike_after}
use Rattle.witness_check.specs.Followed.{Compares, Followed, FollowsHistory, TellsEntry}
use Rattle.witness_check.specs.Turns.{is_aside_entry, out_with, turn_of}
use Rattle.witness_check.specs.declared.turn.Turn.{Turn}
use Rattle.witness_check.specs.declared.witness.Told.{Told}
use Rattle.witness_check.specs.declared.witness.Told.TheVariants.{Bad, Hidden, Same, Unlike}
use Rattle.witness_check.proofs.Turns.{same_pair, seen_next}

-- ---- what is bad

pub none_of : {X : Type 0} (o : Option X) → is_some o ≡ false → o ≡ None
none_of None none = refl
none_of (Some x) none = absurd (let f : true ≡ false = none in cc)

pub stays : (o later : Option ℕ) → is_some o ≡ true → o ≡ earlier_or o later
stays None later some = absurd (let f : false ≡ true = some in cc)
stays (Some place) later some = refl

-- no entry is bad so far
pub no_place : (c : ConfigNumbers) (past : Past) → None ≡ first_bad_of c past → IsLegal c past
no_place c past e =
    subst (IsLegal c) (reverse-reverse past)
    (none_is_legal c (reverse past) (ap (first_bad_of c) (reverse-reverse past) ∙ sym e))

-- a place for each thing that is told of an entry behind a legal history
bad_next : (o : TraceOptions) (c : ConfigNumbers) (past : Past) (e : Entry) (next : Option Seen) (told : Told) (count
    : ℕ)
    → None ≡ first_bad_of c past → count ≡ length past + 1 → TellsEntry o c past e next told
    → bad_after told count ≡ first_bad_of c (e ∷ past)
bad_next o c past e next told count none same said =
    by told said ∙ ap (λ p. earlier_or p (cond (may_follow c past e) None (Some (length past + 1)))) none
  where
    this : Bool → Option ℕ
    this b = cond b None (Some (length past + 1))

    follows : (b : Bool) → legal c (e ∷ past) ≡ b → may_follow c past e ≡ b
    follows b h = sym (ap (λ l. l && may_follow c past e) (no_place c past none)) ∙ h

    well : legal c (e ∷ past) ≡ true → None ≡ cond (may_follow c past e) None (Some (length past + 1))
    well h = sym (ap (λ b. cond b None (Some (length past + 1))) (follows true h))

    by : (t : Told) → TellsEntry o c past e next t
        → bad_after t count ≡ cond (may_follow c past e) None (Some (length past + 1))
    by Bad h = ap Some same ∙ sym (ap (λ b. cond b None (Some (length past + 1))) (follows false h))
    by Hidden h = well h.0
    by Same h = well h.0
    by (Unlike d) h = well h.0

-- ---- one more entry

-- behind a bad one
pub compared_on : (o : TraceOptions) (c : ConfigNumbers) (trace : List Seen) (past : Past) (e : Entry) (x : Compared)
    (count : ℕ) → count ≡ x.count + 1 → is_some x.bad ≡ true → IsComparedTo o c trace past x
    → IsComparedTo o c trace (e ∷ past) (record {
      options = x.options;
      aside = x.aside;
      followed = x.followed;
      count = count;
      bad = x.bad;
      next = x.next;
      out = x.out;
      unlike = x.unlike;
    })
compared_on o c trace past e x count more some h =
    record {
      reads = h.reads;
      apart = h.apart;
      counted = omega (arith, more, h.counted);
      first = stays x.bad (cond (may_follow c past e) None (Some (length past + 1))) some
          ∙ ap (λ p. earlier_or p (cond (may_follow c past e) None (Some (length past + 1)))) h.first;
      follows = λ none. absurd (let f : false ≡ true = sym (ap is_some none) ∙ some in cc);
      seen = λ none. absurd (let f : false ≡ true = sym (ap is_some none) ∙ some in cc);
    }

-- what is told of an entry that is legal
told_seen : (o : TraceOptions) (c : ConfigNumbers) (past : Past) (e : Entry) (next : Option Seen) (told : Told)
    (count : ℕ) → bad_after told count ≡ None → TellsEntry o c past e next told → Compares o (shown c past e) next told
told_seen o c past e next Bad count none h = absurd (let f : Some count ≡ None = none in cc)
told_seen o c past e next Hidden count none h = h.1
told_seen o c past e next Same count none h = h.1
told_seen o c past e next (Unlike d) count none h = h.1

pub compared_next : (o : TraceOptions) (c : ConfigNumbers) (trace : List Seen) (past : Past) (e : Entry) (x : Compared)
    (y : Followed) (thing : Option Seen) (told : Told) (turn : Turn) (count after more : ℕ) → count ≡ x.count + 1
    → after ≡ x.next + 1
    → more ≡ out_with e x.out → turn ≡ turn_of (is_aside_entry x.aside e) x.out x.next → is_some x.bad ≡ false
    → IsComparedTo o c trace past x → SaysNext trace x thing
    → (FollowsHistory c past x.followed → TellsEntry x.options c past e thing told × FollowsHistory c (e ∷ past) y)
    → IsComparedTo o c trace (e ∷ past) (record {
      options = x.options;
      aside = x.aside;
      followed = y;
      count = count;
      bad = bad_after told count;
      next = next_after told turn x.unlike x.next after;
      out = out_after told turn x.unlike x.out more;
      unlike = unlike_after told turn x.unlike;
    })
compared_next o c trace past e x y thing told turn count after more one next outs whose none h says take =
    let no = none_of x.bad none in
    let said = take (h.follows no) in
    let tells : TellsEntry o c past e thing told =
    subst (λ (p : TraceOptions). TellsEntry p c past e thing told) h.reads said.0 in
    let place : None ≡ first_bad_of c past = sym no ∙ h.first in
    let a = aside_pair o c in
    let b = is_aside_entry a e in
    let at : turn ≡ turn_of b x.out x.next = whose ∙ ap (λ p. turn_of (is_aside_entry p e) x.out x.next) h.apart in
    record {
      reads = h.reads;
      apart = h.apart;
      counted = omega (arith, one, h.counted);
      first = bad_next o c past e thing told count place (omega (arith, one, h.counted)) tells;
      follows = λ good. said.1;
      seen = λ good. subst (λ (t : Turn). IsSeenTo o a trace (with_shown (shown c past e) (observed c past))
          (next_after told t x.unlike x.next after) (out_after told t x.unlike x.out more) (unlike_after told t
          x.unlike))
          (sym at)
          (seen_next o a trace (observed c past) x.next after x.out more thing (shown c past e) b told x.unlike next
          (says no) (h.seen no)
          (λ s is. let w = same_pair a c past e x.out s is in (w.0, outs ∙ w.1))
          (told_seen o c past e thing told count good tells));
    }

-- before any entry
pub compared_none : (o : TraceOptions) (c : ConfigNumbers) (a : Option ℕ) (trace : List Seen) (x : Followed)
    → a ≡ aside_pair o c → FollowsHistory c [] x
    → IsComparedTo o c trace [] (record {
      options = o;
      aside = a;
      followed = x;
      count = 0;
      bad = None;
      next = 1;
      out = 0;
      unlike = None;
    })
compared_none o c a trace x apart h =
    record {
      reads = refl;
      apart = apart;
      counted = refl;
      first = refl;
      follows = λ none. h;
      seen = λ none. (0, refl, refl, (omega arith, (refl, tt)));
    }

-- ---- all entries

pub more_of : (xs : List Entry) (i : ℕ) (x : Entry) → i < length xs → x ≡ get_or xs i x
    → reverse (take (i + 1) xs) ≡ x ∷ reverse (take i xs)
more_of xs i x l there =
    ap reverse (take_more xs i x l) ∙ reverse-append (take i xs) (get_or xs i x ∷ [])
    ∙ ap (λ y. y ∷ reverse (take i xs)) (sym there)
