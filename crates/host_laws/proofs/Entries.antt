-- What was published of a takeover.
use Rattle.std.proofs.Common.{◌≡◌, ℕ, suc, Bool, true, false, not, cond, List, [], ◌∷◌, ◌++◌, length, map, refl, sym}
use Rattle.std.proofs.Common.{ap, subst, Option, Some, None, inl, inr, ◌⊎◌, arith, eqb, slice_get}
use Rattle.std.proofs.lemmas.Bool.{not-true}
use Rattle.nvme_model.specs.EntryBytes.{sqe_fields, slba}
use Rattle.nvme_model.specs.History.{Past}
use Rattle.nvme_model.specs.Queues.{published_entries}
use Rattle.nvme_model.specs.Slots.{Name, Swap, name_of, is_pair_on_one, swaps, swaps_in}
use Rattle.nvme_model.specs.declared.submission.Submission.{Submission}
use Rattle.nvme_model.specs.declared.entry.PublishLine.{PublishLine}
use Rattle.nvme_model.specs.declared.entry.Entry.{Entry}
use Rattle.nvme_model.proofs.Lists.{Each, each_append, each_map}
use Rattle.host_laws.proofs.Discipline.{swaps_later}
use Rattle.host_laws.proofs.Elements.{In, get_append, in_cases, in_left, in_right}
use Rattle.host_laws.proofs.SwapEntries.{Stands, publish_stands}
use Rattle.host_laws.specs.Takeovers.{Takeover, giving, moves, moves_in, takeover_by, takeover_of, takeovers}
use Rattle.host_laws.specs.Takeovers.{takeovers_in}

-- two entries from number j on, a pair on block l
pub record EntryPair (entries : List Submission) (j l : ℕ) : Type 0 where
  pub old : Submission
  pub new : Submission
  pub first : slice_get entries j ≡ Some old
  pub second : slice_get entries (suc j) ≡ Some new
  pub pair : is_pair_on_one old new ≡ true
  pub lba : l ≡ slba (sqe_fields old.entry)

-- of a takeover the old data is the dead name, and the new one its own
pub record TakeoverData (w : Takeover) (old new : List ℕ) : Type 0 where
  pub dead : name_of old ≡ Some w.dead
  pub name : name_of new ≡ Some w.name

pub record TakeoverIs (all : List Submission) (w : Takeover) : Type 0 where
  pub entries : EntryPair all w.number w.lba
  pub bytes : TakeoverData w entries.old.payload entries.new.payload
  pub apart : eqb w.dead.host w.name.host ≡ false

takeover_more : (entries more : List Submission) (w : Takeover) → TakeoverIs entries w
    → TakeoverIs (entries ++ more) w
takeover_more entries more w h =
    record {
      entries = record {
        old = h.entries.old;
        new = h.entries.new;
        first = get_append entries more w.number h.entries.old h.entries.first;
        second = get_append entries more (suc w.number) h.entries.new h.entries.second;
        pair = h.entries.pair;
        lba = h.entries.lba;
      };
      bytes = h.bytes;
      apart = h.apart;
    }

abbrev pub IsOn : List Submission → ℕ → Takeover → Type 0
IsOn entries q w = (w.queue ≡ q) × TakeoverIs entries w

each_if : (P : Takeover → Type 0) (b : Bool) (xs : List Takeover) → (b ≡ true → Each P xs) → Each P (cond b xs [])
each_if P true xs f = f refl
each_if P false xs f = tt

by_names : (entries : List Submission) (q j : ℕ) (a b : Submission) (m n : Option Name) → name_of a.payload ≡ m
    → name_of b.payload ≡ n → slice_get entries j ≡ Some a → slice_get entries (suc j) ≡ Some b
    → is_pair_on_one a b ≡ true → Each (IsOn entries q) (takeover_by q j (slba (sqe_fields a.entry)) m n)
by_names entries q j a b None n e f x y p = tt
by_names entries q j a b (Some m) None e f x y p = tt
by_names entries q j a b (Some m) (Some n) e f x y p =
    each_if (IsOn entries q) (not (eqb m.host n.host))
    (record { queue = q; number = j; lba = slba (sqe_fields a.entry); dead = m; name = n } ∷ []) (λ g. (
      (
        refl,
        record {
          entries = record { old = a; new = b; first = x; second = y; pair = p; lba = refl };
          bytes = record { dead = e; name = f };
          apart = not-true (eqb m.host n.host) g;
        },
      ),
      tt,
    ))

takeover_is : (entries : List Submission) (q j : ℕ) (a b : Submission) → slice_get entries j ≡ Some a
    → slice_get entries (suc j) ≡ Some b → Each (IsOn entries q) (takeover_of q j a b)
takeover_is entries q j a b x y =
    each_if (IsOn entries q) (is_pair_on_one a b)
    (takeover_by q j (slba (sqe_fields a.entry)) (name_of a.payload) (name_of b.payload))
    (λ p. by_names entries q j a b (name_of a.payload) (name_of b.payload) refl refl x y p)

pub takeovers_in_are : (entries : List Submission) (q j : ℕ) (batch : List Submission) → Stands entries j batch
    → Each (IsOn entries q) (takeovers_in q j batch)
takeovers_in_are entries q j [] h = tt
takeovers_in_are entries q j (a ∷ []) h = tt
takeovers_in_are entries q j (a ∷ b ∷ rest) h =
    each_append (IsOn entries q) (takeover_of q j a b) (takeovers_in q (suc j) (b ∷ rest))
    (takeover_is entries q j a b (h 0 j a (omega arith) refl) (h 1 (suc j) b (omega arith) refl))
    (takeovers_in_are entries q (suc j) (b ∷ rest) (λ i m x e g. h (suc i) m x (omega (arith, e)) g))

abbrev pub TakeoverOf : Past → Takeover → Type 0
TakeoverOf past w = TakeoverIs (published_entries past w.queue) w

pub takeovers_are : (past : Past) → Each (TakeoverOf past) (takeovers past)
takeovers_are [] = tt
takeovers_are (Entry.Publish p ∷ past) =
    each_append (TakeoverOf (Entry.Publish p ∷ past))
    (takeovers_in p.queue (length (published_entries past p.queue)) p.batch) (takeovers past)
    (each_map (IsOn (published_entries (Entry.Publish p ∷ past) p.queue) p.queue)
    (TakeoverOf (Entry.Publish p ∷ past))
    (λ w f. subst (λ (q : ℕ). TakeoverIs (published_entries (Entry.Publish p ∷ past) q) w) (sym f.0) f.1)
    (takeovers_in p.queue (length (published_entries past p.queue)) p.batch)
    (takeovers_in_are (published_entries (Entry.Publish p ∷ past) p.queue) p.queue
    (length (published_entries past p.queue)) p.batch (publish_stands past p)))
    (each_map (TakeoverOf past) (TakeoverOf (Entry.Publish p ∷ past))
    (λ w f. takeover_more (published_entries past w.queue) (cond (eqb p.queue w.queue) p.batch []) w f)
    (takeovers past) (takeovers_are past))
takeovers_are (Entry.Fetch f ∷ past) = takeovers_are past
takeovers_are (Entry.Grant f ∷ past) = takeovers_are past
takeovers_are (Entry.Block f ∷ past) = takeovers_are past
takeovers_are (Entry.Post f ∷ past) = takeovers_are past
takeovers_are (Entry.Reap f ∷ past) = takeovers_are past

pub takeovers_later : (later past : Past) (w : Takeover) → In w (takeovers past) → In w (takeovers (later ++ past))
takeovers_later [] past w h = h
takeovers_later (Entry.Publish p ∷ later) past w h =
    in_right w _ (takeovers (later ++ past)) (takeovers_later later past w h)
takeovers_later (Entry.Fetch p ∷ later) past w h = takeovers_later later past w h
takeovers_later (Entry.Grant p ∷ later) past w h = takeovers_later later past w h
takeovers_later (Entry.Block p ∷ later) past w h = takeovers_later later past w h
takeovers_later (Entry.Post p ∷ later) past w h = takeovers_later later past w h
takeovers_later (Entry.Reap p ∷ later) past w h = takeovers_later later past w h

-- ---- a move is a claim or a release, or what a takeover gives

pub given_by : (ws : List Takeover) (s : Swap) → In s (map giving ws) → (w : Takeover) × In w ws × (s ≡ giving w)
given_by [] s i = absurd i
given_by (w ∷ ws) s (inl e) = (w, inl refl, e)
given_by (w ∷ ws) s (inr i) = let r = given_by ws s i in (r.0, inr r.1, r.2)

pub in_giving : (ws : List Takeover) (w : Takeover) → In w ws → In (giving w) (map giving ws)
in_giving [] w i = absurd i
in_giving (v ∷ ws) w (inl e) = inl (ap giving e)
in_giving (v ∷ ws) w (inr i) = inr (in_giving ws w i)

abbrev pub FromTakeover : List Takeover → Swap → Type 0
FromTakeover ws s = (w : Takeover) × In w ws × (s ≡ giving w)

pub move_cases : (past : Past) (s : Swap) → In s (moves past) → In s (swaps past) ⊎ FromTakeover (takeovers past) s
move_cases past s i = elim (in_cases s (swaps past) (map giving (takeovers past)) i) [
  | inl x ↦ inl x
  | inr x ↦ inr (given_by (takeovers past) s x)
]

pub batch_cases : (q j : ℕ) (batch : List Submission) (s : Swap) → In s (moves_in q j batch)
    → In s (swaps_in q j batch) ⊎ FromTakeover (takeovers_in q j batch) s
batch_cases q j batch s i = elim (in_cases s (swaps_in q j batch) (map giving (takeovers_in q j batch)) i) [
  | inl x ↦ inl x
  | inr x ↦ inr (given_by (takeovers_in q j batch) s x)
]

pub swap_moves : (past : Past) (s : Swap) → In s (swaps past) → In s (moves past)
swap_moves past s i = in_left s (swaps past) (map giving (takeovers past)) i

pub takeover_moves : (past : Past) (w : Takeover) → In w (takeovers past) → In (giving w) (moves past)
takeover_moves past w i =
    in_right (giving w) (swaps past) (map giving (takeovers past)) (in_giving (takeovers past) w i)

-- a move of a Publish, or one before it
pub moves_split : (past : Past) (p : PublishLine) (s : Swap) → In s (moves (Entry.Publish p ∷ past))
    → In s (moves_in p.queue (length (published_entries past p.queue)) p.batch) ⊎ In s (moves past)
moves_split past p s i =
    let j = length (published_entries past p.queue) in
    elim (in_cases s (swaps_in p.queue j p.batch ++ swaps past)
    (map giving (takeovers_in p.queue j p.batch ++ takeovers past)) i) [
      | inl x ↦ elim (in_cases s (swaps_in p.queue j p.batch) (swaps past) x) [
        | inl y ↦ inl (in_left s (swaps_in p.queue j p.batch) (map giving (takeovers_in p.queue j p.batch)) y)
        | inr y ↦ inr (swap_moves past s y)
      ]
      | inr x ↦
          let g = given_by (takeovers_in p.queue j p.batch ++ takeovers past) s x in
          elim (in_cases g.0 (takeovers_in p.queue j p.batch) (takeovers past) g.1) [
            | inl y ↦ inl (in_right s (swaps_in p.queue j p.batch) (map giving (takeovers_in p.queue j p.batch))
                (subst (λ (t : Swap). In t (map giving (takeovers_in p.queue j p.batch))) (sym g.2)
                (in_giving (takeovers_in p.queue j p.batch) g.0 y)))
            | inr y ↦ inr (subst (λ (t : Swap). In t (moves past)) (sym g.2) (takeover_moves past g.0 y))
          ]
    ]

pub moves_later : (later past : Past) (s : Swap) → In s (moves past) → In s (moves (later ++ past))
moves_later later past s i = elim (move_cases past s i) [
  | inl x ↦ swap_moves (later ++ past) s (swaps_later later past s x)
  | inr x ↦ subst (λ (t : Swap). In t (moves (later ++ past))) (sym x.2)
      (takeover_moves (later ++ past) x.0 (takeovers_later later past x.0 x.1))
]
