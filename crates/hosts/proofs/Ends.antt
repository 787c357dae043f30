-- What the ends of threads came to, and which passes came back.
use Rattle.std.proofs.Common.{All, Err, IfOk, List, Ok, OnOk, Result, [], ap, arith, length, map, refl, reverse, subst}
use Rattle.std.proofs.Common.{suc, sym, ◌++◌, ◌∙◌, ◌∷◌, ◌≡◌}
use Rattle.std.specs.List.{AllZip}
use Rattle.std.specs.Result.{result_and}
use mathlib.Core.List.{reverse-cons}
use Rattle.std.proofs.lemmas.List.{map-append, reverse-append}
use Rattle.hosts.specs.Returning.{AreParted, GaveBack}

module _ {X : Type 0} where
  pub no_items : (xs : List X) → length xs ≡ 0 → xs ≡ []
  no_items [] e = refl
  no_items (x ∷ xs) e = absurd (let h : suc (length xs) ≡ 0 = e in cc)

-- ---- two lists side by side

module _ {X Y : Type 0} where
  pub zip_append : (R : X → Y → Type 0) (xs us : List X) (ys vs : List Y) → AllZip R xs ys → AllZip R us vs
      → AllZip R (xs ++ us) (ys ++ vs)
  zip_append R [] us [] vs h k = k
  zip_append R [] us (y ∷ ys) vs h k = absurd h
  zip_append R (x ∷ xs) us [] vs h k = absurd h
  zip_append R (x ∷ xs) us (y ∷ ys) vs h k = (h.0, zip_append R xs us ys vs h.1 k)

  pub zip_weaker : (R S : X → Y → Type 0) → ((x : X) (y : Y) → R x y → S x y) → (xs : List X) (ys : List Y)
      → AllZip R xs ys → AllZip S xs ys
  zip_weaker R S f [] [] h = h
  zip_weaker R S f [] (y ∷ ys) h = absurd h
  zip_weaker R S f (x ∷ xs) [] h = absurd h
  zip_weaker R S f (x ∷ xs) (y ∷ ys) h = (f x y h.0, zip_weaker R S f xs ys h.1)

module _ {X Y Z : Type 0} where
  pub zip_far : (R : X → Y → Type 0) (S : Y → Z → Type 0) (T : X → Z → Type 0)
      → ((x : X) (y : Y) (z : Z) → R x y → S y z → T x z) → (xs : List X) (ys : List Y) (zs : List Z) → AllZip R xs ys
      → AllZip S ys zs → AllZip T xs zs
  zip_far R S T f [] [] [] h k = tt
  zip_far R S T f [] [] (z ∷ zs) h k = absurd k
  zip_far R S T f [] (y ∷ ys) zs h k = absurd h
  zip_far R S T f (x ∷ xs) [] zs h k = absurd h
  zip_far R S T f (x ∷ xs) (y ∷ ys) [] h k = absurd k
  zip_far R S T f (x ∷ xs) (y ∷ ys) (z ∷ zs) h k = (f x y z h.0 k.0, zip_far R S T f xs ys zs h.1 k.1)

module _ {X : Type 0} where
  pub zip_same : (R : X → X → Type 0) (P : X → Type 0) → ((x : X) → P x → R x x) → (xs : List X) → All P xs
      → AllZip R xs xs
  zip_same R P f [] h = tt
  zip_same R P f (x ∷ xs) h =
      (f x (h 0 x (omega arith)), zip_same R P f xs (λ k d within. h (suc k) d (omega (arith, within))))

-- ---- the ends of threads

module _ {E : Type 0} where
  pub both_first : (X : Type 0) (ends r : Result (Unit {0}) E) → OnOk ends X → OnOk (result_and ends r) X
  both_first X (Ok u) (Ok v) x = x
  both_first X (Ok u) (Err e) x = tt
  both_first X (Err e) r x = tt

  pub both_last : (X : Type 0) (ends r : Result (Unit {0}) E) → OnOk r X → OnOk (result_and ends r) X
  both_last X (Ok u) (Ok v) x = x
  both_last X (Ok u) (Err e) x = tt
  both_last X (Err e) r x = tt

module _ {E : Type 0} where
  pub says_ok : (r : Result (Unit {0}) E) → OnOk r (r ≡ Ok tt)
  says_ok (Ok u) = refl
  says_ok (Err e) = tt

-- ---- passes that come back

module _ {H Q E : Type 0} where
  -- where more threads have to say Ok
  pub gave_less : (kept : Q → H × Result (Unit {0}) E → Type 0) (ends r : Result (Unit {0}) E) (ps : List Q)
      (back : List H) → AllZip (GaveBack kept ends) ps back → AllZip (GaveBack kept (result_and ends r)) ps back
  gave_less kept ends r ps back h =
      zip_weaker (GaveBack kept ends) (GaveBack kept (result_and ends r))
      (λ p b x. (x.0, x.1, both_first (x.0 ≡ Ok tt) ends r x.2)) ps back h

  pub gave_too : (kept : Q → H × Result (Unit {0}) E → Type 0) (r ends : Result (Unit {0}) E) (ps : List Q)
      (back : List H) → AllZip (GaveBack kept ends) ps back → AllZip (GaveBack kept (result_and r ends)) ps back
  gave_too kept r ends ps back h =
      zip_weaker (GaveBack kept ends) (GaveBack kept (result_and r ends))
      (λ p b x. (x.0, x.1, both_last (x.0 ≡ Ok tt) r ends x.2)) ps back h

  -- one that may have been started
  pub gave_one : {T F : Type 0} (kept : Q → H × Result (Unit {0}) E → Type 0) (promise : T → Q) (child : Result T F)
      (joined end : Result (Unit {0}) E) (caller : H) → IfOk child (λ h. kept (promise h) (caller, end))
      → IfOk child (λ h. GaveBack kept (result_and joined end) (promise h) caller)
  gave_one kept promise (Ok h) joined end caller k = (end, k, both_last (end ≡ Ok tt) joined end (says_ok end))
  gave_one kept promise (Err f) joined end caller k = tt

  -- one more
  pub gave_more : {X : Type 0} (kept : Q → H × Result (Unit {0}) E → Type 0) (f : X → Q) (ends r : Result (Unit {0}) E)
      (child : X) (joined : List X) (caller : H) (back : List H)
      → AllZip (GaveBack kept ends) (reverse (map f joined)) back → kept (f child) (caller, r)
      → AllZip (GaveBack kept (result_and ends r)) (reverse (map f (child ∷ joined))) (back ++ caller ∷ [])
  gave_more kept f ends r child joined caller back h k =
      subst (λ l. AllZip (GaveBack kept (result_and ends r)) l (back ++ caller ∷ []))
      (sym (reverse-cons (f child) (map f joined)))
      (zip_append (GaveBack kept (result_and ends r)) (reverse (map f joined)) (f child ∷ []) back (caller ∷ [])
      (gave_less kept ends r (reverse (map f joined)) back h) ((r, k, both_last (r ≡ Ok tt) ends r (says_ok r)), tt))

module _ {H Q : Type 0} (goes : H → H → Type 0) (is_for : H → Q → Type 0) where
  -- one thread more
  pub begun_more : {X : Type 0} (f : X → Q) (child : X) (started : List X) (caller : H) (begun : List H)
      → AllZip is_for begun (reverse (map f started)) → is_for caller (f child)
      → AllZip is_for (caller ∷ begun) (reverse (map f (started ++ child ∷ [])))
  begun_more f child started caller begun h k =
      subst (AllZip is_for (caller ∷ begun))
      (sym (ap reverse (map-append f started (child ∷ [])) ∙ reverse-append (map f started) (f child ∷ []))) (k, h)

  -- where one couldn't be started
  pub parted_here : (rest begun old new : List H) (own back : H) (ps : List Q) → old ≡ (rest ++ own ∷ []) ++ begun
      → AllZip goes rest rest → goes own back → new ≡ rest ++ back ∷ [] → AllZip is_for begun (reverse ps)
      → AreParted goes is_for old new ps
  parted_here rest begun old new own back ps whole same went is runs =
      record {
        left = rest ++ own ∷ [];
        begun = begun;
        whole = whole;
        stayed = subst (AllZip goes (rest ++ own ∷ [])) (sym is)
            (zip_append goes rest (own ∷ []) rest (back ∷ []) same (went, tt));
        runs = runs;
      }

  -- where all were
  pub parted_all : (rest begun old new : List H) (ps : List Q) → old ≡ rest ++ begun → rest ≡ [] → new ≡ []
      → AllZip is_for begun (reverse ps) → AreParted goes is_for old new ps
  parted_all rest begun old new ps whole none is runs =
      record {
        left = [];
        begun = begun;
        whole = whole ∙ ap (λ l. l ++ begun) none;
        stayed = subst (AllZip goes []) (sym is) tt;
        runs = runs;
      }

  -- all passes, where each thread's are as its promise says
  pub all_back : {E : Type 0} (kept : Q → H × Result (Unit {0}) E → Type 0) (ends : Result (Unit {0}) E)
      (old new back : List H) (ps : List Q) → AreParted goes is_for old new ps
      → AllZip (GaveBack kept ends) (reverse ps) back
      → ((h b : H) (p : Q) (r : Result (Unit {0}) E) → is_for h p → kept p (b, r) → goes h b)
      → AllZip goes old (new ++ back)
  all_back kept ends old new back ps parted gave f =
      subst (λ l. AllZip goes l (new ++ back)) (sym parted.whole)
      (zip_append goes parted.left parted.begun new back parted.stayed
      (zip_far is_for (GaveBack kept ends) goes (λ h p b x g. f h b p g.0 x g.1) parted.begun (reverse ps) back
      parted.runs gave))

  -- where all threads were started and said so
  pub all_said : {E : Type 0} (kept : Q → H × Result (Unit {0}) E → Type 0) (did : H → H → Type 0)
      (ends : Result (Unit {0}) E) (old new back : List H) (ps : List Q) → AreParted goes is_for old new ps
      → OnOk ends (new ≡ []) → AllZip (GaveBack kept ends) (reverse ps) back
      → ((h b : H) (p : Q) → is_for h p → kept p (b, Ok tt) → did h b)
      → OnOk ends (AllZip did old (new ++ back))
  all_said kept did (Err e) old new back ps parted none gave f = tt
  all_said kept did (Ok u) old new back ps parted none gave f =
      subst (λ l. AllZip did old l) (sym (ap (λ l. l ++ back) none))
      (subst (λ l. AllZip did l back)
      (sym (parted.whole ∙ ap (λ l. l ++ parted.begun) (empty parted.left new none parted.stayed)))
      (zip_far is_for (GaveBack kept (Ok u)) did
      (λ h p b x g. f h b p x (subst (λ r. kept p (b, r)) g.2 g.1))
      parted.begun (reverse ps) back parted.runs gave))
    where
      empty : (left new : List H) → new ≡ [] → AllZip goes left new → left ≡ []
      empty [] new e h = refl
      empty (x ∷ left) [] e h = absurd h
      empty (x ∷ left) (y ∷ new) e h = absurd cc
