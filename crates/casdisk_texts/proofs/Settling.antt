-- Doing what is ready, one step after the other.
use Rattle.std.proofs.Common.{◌≡◌, ℕ, ◌+◌, ◌<◌, List, [], ◌++◌, None, Some, refl, sym, ap, ◌∙◌, subst, append_assoc}
use Rattle.std.proofs.Common.{append-nil, arith}
use Rattle.std.specs.Prelude.{Option, zero, suc}
use Rattle.std.specs.Io.KnownBytes.{Appends}
use Rattle.std.proofs.KnownBytes.{Appends-trans, Appends-nil}
use Rattle.line_text.specs.Known.{AppendsFront}
use Rattle.line_text.proofs.Known.{front_first, front_second}
use Rattle.nvme_model.specs.History.{Past}
use Rattle.nvme_model.specs.Steps.{ready}
use Rattle.nvme_model.specs.declared.config.ConfigNumbers.{ConfigNumbers}
use Rattle.nvme_model.specs.declared.step.Step.{Step}
use Rattle.casdisk_texts.specs.Doing.{SaysAll}
use Rattle.casdisk_texts.specs.Said.{all_ready, ready_by, settle_says, step_says, then_more}

-- a text that was written, and then what is said
abbrev pub said_after : List ℕ → Past × List ℕ → Past × List ℕ
said_after out x = (x.0, out ++ x.1)

module _ (kinds : ℕ) (c : ConfigNumbers) where
  settle_zero : (past : Past) → settle_says 0 kinds c past ≡ (past, [])
  unfolding settle_says
  settle_zero past = refl

  settle_none : (n : ℕ) (past : Past) → ready c past ≡ None → settle_says (suc n) kinds c past ≡ (past, [])
  unfolding settle_says
  settle_none n past e = ap (λ o. ready_by kinds c past o (settle_says n kinds c)) e

  settle_some : (n : ℕ) (past : Past) (step : Step) → ready c past ≡ Some step
      → settle_says (suc n) kinds c past ≡ then_more (step_says kinds c past step) (settle_says n kinds c)
  unfolding settle_says
  settle_some n past step e = ap (λ o. ready_by kinds c past o (settle_says n kinds c)) e

  -- so many steps were done, and the rest is what is said of the history by now
  pub record Settled (past now : Past) (turn : ℕ) (w v : Option (List ℕ)) : Type 0 where
    pub left : ℕ
    pub count : turn + left ≡ all_ready
    pub out : List ℕ
    pub written : Appends w v out
    pub agrees : settle_says all_ready kinds c past ≡ said_after out (settle_says left kinds c now)

  pub settled_none : (past : Past) (w : Option (List ℕ)) → Settled past past 0 w w
  settled_none past w = record { left = all_ready; count = refl; out = []; written = Appends-nil w; agrees = refl }

  -- it ends here, with nothing more said
  ended : (past now : Past) (out : List ℕ) (w v : Option (List ℕ)) (n : ℕ)
      → settle_says all_ready kinds c past ≡ said_after out (settle_says n kinds c now)
      → settle_says n kinds c now ≡ (now, [])
      → Appends w v out → SaysAll (settle_says all_ready kinds c past) now w v
  ended past now out w v n e h p =
      let all : settle_says all_ready kinds c past ≡ (now, out ++ []) = e ∙ ap (said_after out) h in (
        ap (λ (x : Past × List ℕ). x.0) (sym all),
        subst (Appends w v) (sym (ap (λ (x : Past × List ℕ). x.1) all ∙ append-nil out)) p,
      )

  module _ (past now : Past) (turn : ℕ) (w v : Option (List ℕ)) where
    none_left : (left : ℕ) (out : List ℕ) → turn + left ≡ all_ready → turn < all_ready
        → settle_says all_ready kinds c past ≡ said_after out (settle_says left kinds c now) → Appends w v out
        → ready c now ≡ None → SaysAll (settle_says all_ready kinds c past) now w v
    none_left zero out m less e p none = absurd (omega (arith, m, less))
    none_left (suc n) out m less e p none = ended past now out w v (suc n) e (settle_none n now none) p

    pub settled_ready : Settled past now turn w v → turn < all_ready → ready c now ≡ None
        → SaysAll (settle_says all_ready kinds c past) now w v
    settled_ready at less none = none_left at.left at.out at.count less at.agrees at.written none

    none_more : (left : ℕ) (out : List ℕ) → left ≡ 0
        → settle_says all_ready kinds c past ≡ said_after out (settle_says left kinds c now) → Appends w v out
        → SaysAll (settle_says all_ready kinds c past) now w v
    none_more left out z e p = ended past now out w v left e (ap (λ n. settle_says n kinds c now) z ∙ settle_zero now) p

    pub settled_all : Settled past now turn w v → turn ≡ all_ready
        → SaysAll (settle_says all_ready kinds c past) now w v
    settled_all at e = none_more at.left at.out (omega (arith, at.count, e)) at.agrees at.written

    module _ (step : Step) (some : ready c now ≡ Some step) where
      next : (left : ℕ) (out : List ℕ) → turn + left ≡ all_ready → turn < all_ready
          → settle_says all_ready kinds c past ≡ said_after out (settle_says left kinds c now) → Appends w v out
          → (after : Past) (u : Option (List ℕ)) → SaysAll (step_says kinds c now step) after v u
          → Settled past after (turn + 1) w u
      next zero out m less e p after u s = absurd (omega (arith, m, less))
      next (suc n) out m less e p after u s =
          let text = (step_says kinds c now step).1 in
          let more : settle_says (suc n) kinds c now ≡ said_after text (settle_says n kinds c after) =
          settle_some n now step some ∙ ap (λ a. said_after text (settle_says n kinds c a)) (sym s.0) in
          record {
            left = n;
            count = omega (arith, m);
            out = out ++ text;
            written = Appends-trans w v u out text p s.1;
            agrees = e ∙ ap (said_after out) more
                ∙ ap (λ l. ((settle_says n kinds c after).0, l))
                (sym (append_assoc out text (settle_says n kinds c after).1));
          }

      pub settled_next : Settled past now turn w v → turn < all_ready → (after : Past) (u : Option (List ℕ))
          → SaysAll (step_says kinds c now step) after v u → Settled past after (turn + 1) w u
      settled_next at less = next at.left at.out at.count less at.agrees at.written

      cut : (left : ℕ) (out : List ℕ) → turn + left ≡ all_ready → turn < all_ready
          → settle_says all_ready kinds c past ≡ said_after out (settle_says left kinds c now) → Appends w v out
          → (u : Option (List ℕ)) → AppendsFront v u (step_says kinds c now step).1
          → AppendsFront w u (settle_says all_ready kinds c past).1
      cut zero out m less e p u h = absurd (omega (arith, m, less))
      cut (suc n) out m less e p u h =
          let x = step_says kinds c now step in
          let text : (settle_says all_ready kinds c past).1 ≡ out ++ (x.1 ++ (settle_says n kinds c x.0).1) =
          ap (λ (y : Past × List ℕ). y.1) (e ∙ ap (said_after out) (settle_some n now step some)) in
          subst (AppendsFront w u) (sym text) (front_second w v u out _ p (front_first v u x.1 _ h))

      pub settled_stopped : Settled past now turn w v → turn < all_ready → (u : Option (List ℕ))
          → AppendsFront v u (step_says kinds c now step).1 → AppendsFront w u (settle_says all_ready kinds c past).1
      settled_stopped at less = cut at.left at.out at.count less at.agrees at.written
