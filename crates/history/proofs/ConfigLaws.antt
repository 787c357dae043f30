-- The configuration line: what is read has it, and what has it is read.
use Rattle.std.proofs.Common.{◌≡◌, ℕ, ◌<◌, ◌^◌, Bool, true, false, cond, List, [], ◌∷◌, ◌++◌, None, Some, refl, sym, ap}
use Rattle.std.proofs.Common.{◌∙◌, subst, arith}
use Rattle.std.specs.Prelude.{Option, Result, Ok, Err, IfOk, codes, decimal}
use Rattle.std.specs.List.{slice_split, join_with_byte, AllByRecursion}
use Rattle.std.specs.Str.{bytes_eq}
use Rattle.std.proofs.Math.Dec.{eqb}
use Rattle.std.proofs.lemmas.Bool.{eqb-true}
use Rattle.std.proofs.lemmas.List.Splits.{join_with_byte-slice_split}
use Rattle.plain_lemmas.proofs.Numbers.{eqb_same}
use Rattle.plain_lemmas.proofs.Lists.{bytes_eq_true}
use Rattle.line_text.specs.Number.{number_in}
use Rattle.line_text.specs.Words.{Without}
use Rattle.line_text.proofs.NumberLaws.{number_is, decimal_spaceless}
use Rattle.line_text.proofs.WordLaws.{words_again}
use Rattle.nvme_model.specs.declared.config.AtomicParameters.{AtomicParameters}
use Rattle.nvme_model.specs.declared.config.ConfigNumbers.{ConfigNumbers}
use Rattle.history.specs.declared.line_fault.LineFault.{LineFault}
use Rattle.history.specs.Gives.{GivesRead}
use Rattle.history.specs.ConfigLine.{HasConfigLine, atomic_from, config_from, config_in, config_line, config_words}
use Rattle.history.specs.ConfigLine.{config_words_in, nine_in, nine_words, nine_words_in, ten_words, ten_words_in}
use Rattle.history.specs.ConfigLine.{with_queues}
use Rattle.history.proofs.LinesAgain.{number_16, number_32}

-- ---- what is read has the line

-- the parts of the numbers of the cut
atomic_parts : (a b c d : Option ℕ) (u : AtomicParameters) → atomic_from a b c d ≡ Some u
    → (a ≡ Some u.awun) × (b ≡ Some u.acwu) × (c ≡ Some u.nabsn) × (d ≡ Some u.nabo)
atomic_parts None b c d u h = absurd cc
atomic_parts (Some a) None c d u h = absurd cc
atomic_parts (Some a) (Some b) None d u h = absurd cc
atomic_parts (Some a) (Some b) (Some c) None u h = absurd cc
atomic_parts (Some a) (Some b) (Some c) (Some d) u h =
    let same : record { awun = a; acwu = b; nabsn = c; nabo = d } ≡ u = cc in (
      ap (λ (v : AtomicParameters). Some v.awun) same,
      ap (λ (v : AtomicParameters). Some v.acwu) same,
      ap (λ (v : AtomicParameters). Some v.nabsn) same,
      ap (λ (v : AtomicParameters). Some v.nabo) same,
    )

-- the parts of a configuration of nine numbers
config_parts : (a : Option ℕ) (u : Option AtomicParameters) (p s q j : Option ℕ) (c : ConfigNumbers)
    → config_from a u p s q j ≡ Some c
    → (a ≡ Some c.blocks) × (u ≡ Some c.atomic) × (p ≡ Some c.pairs) × (s ≡ Some c.sq_size) × (q ≡ Some c.cq_size)
    × (j ≡ Some c.jobs) × (c.cqs ≡ c.pairs)
config_parts None u p s q j c h = absurd cc
config_parts (Some a) None p s q j c h = absurd cc
config_parts (Some a) (Some u) None s q j c h = absurd cc
config_parts (Some a) (Some u) (Some p) None q j c h = absurd cc
config_parts (Some a) (Some u) (Some p) (Some s) None j c h = absurd cc
config_parts (Some a) (Some u) (Some p) (Some s) (Some q) None c h = absurd cc
config_parts (Some a) (Some u) (Some p) (Some s) (Some q) (Some j) c h =
    let same : record { blocks = a; atomic = u; pairs = p; sq_size = s; cq_size = q; jobs = j; cqs = p } ≡ c = cc in (
      ap (λ (v : ConfigNumbers). Some v.blocks) same,
      ap (λ (v : ConfigNumbers). Some v.atomic) same,
      ap (λ (v : ConfigNumbers). Some v.pairs) same,
      ap (λ (v : ConfigNumbers). Some v.sq_size) same,
      ap (λ (v : ConfigNumbers). Some v.cq_size) same,
      ap (λ (v : ConfigNumbers). Some v.jobs) same,
      sym (ap (λ (v : ConfigNumbers). v.cqs) same) ∙ ap (λ (v : ConfigNumbers). v.pairs) same,
    )

-- nine words that are read are those of the configuration, in front of any others
nine_is : (b w x y z p s q j : List ℕ) (more : List (List ℕ)) (c : ConfigNumbers) → nine_in b w x y z p s q j ≡ Some c
    → (b ∷ w ∷ x ∷ y ∷ z ∷ p ∷ s ∷ q ∷ j ∷ more ≡ nine_words c ++ more) × (c.cqs ≡ c.pairs)
nine_is b w x y z p s q j more c h =
    let k = config_parts (number_in 32 b)
    (atomic_from (number_in 16 w) (number_in 16 x) (number_in 16 y) (number_in 16 z)) (number_in 16 p)
    (number_in 16 s) (number_in 16 q) (number_in 16 j) c h in
    let u = atomic_parts (number_in 16 w) (number_in 16 x) (number_in 16 y) (number_in 16 z) c.atomic k.1 in (
      ap (λ v. v ∷ w ∷ x ∷ y ∷ z ∷ p ∷ s ∷ q ∷ j ∷ more) (number_is 32 c.blocks b k.0).0
          ∙ ap (λ v. decimal c.blocks ∷ v ∷ x ∷ y ∷ z ∷ p ∷ s ∷ q ∷ j ∷ more) (number_is 16 c.atomic.awun w u.0).0
          ∙ ap (λ v. decimal c.blocks ∷ decimal c.atomic.awun ∷ v ∷ y ∷ z ∷ p ∷ s ∷ q ∷ j ∷ more)
          (number_is 16 c.atomic.acwu x u.1).0
          ∙ ap (λ v. decimal c.blocks ∷ decimal c.atomic.awun ∷ decimal c.atomic.acwu ∷ v ∷ z ∷ p ∷ s ∷ q ∷ j ∷ more)
          (number_is 16 c.atomic.nabsn y u.2).0
          ∙ ap (λ v. decimal c.blocks ∷ decimal c.atomic.awun ∷ decimal c.atomic.acwu ∷ decimal c.atomic.nabsn ∷ v ∷ p
          ∷ s ∷ q ∷ j ∷ more) (number_is 16 c.atomic.nabo z u.3).0
          ∙ ap (λ l. decimal c.blocks ∷ decimal c.atomic.awun ∷ decimal c.atomic.acwu ∷ decimal c.atomic.nabsn
          ∷ decimal c.atomic.nabo ∷ l)
          (ap (λ v. v ∷ s ∷ q ∷ j ∷ more) (number_is 16 c.pairs p k.2).0
          ∙ ap (λ v. decimal c.pairs ∷ v ∷ q ∷ j ∷ more) (number_is 16 c.sq_size s k.3).0
          ∙ ap (λ v. decimal c.pairs ∷ decimal c.sq_size ∷ v ∷ j ∷ more) (number_is 16 c.cq_size q k.4).0
          ∙ ap (λ v. decimal c.pairs ∷ decimal c.sq_size ∷ decimal c.cq_size ∷ v ∷ more) (number_is 16 c.jobs j k.5).0),
      k.6,
    )

-- the words of a configuration with as many completion queues as submission queues
words_even : (c : ConfigNumbers) → c.cqs ≡ c.pairs → codes "config" ∷ nine_words c ≡ config_words c
words_even c e =
    let same : eqb c.cqs c.pairs ≡ true = ap (λ n. eqb n c.pairs) e ∙ eqb_same c.pairs in
    sym (ap (λ t. cond t (codes "config" ∷ nine_words c) (codes "config2" ∷ ten_words c)) same)

-- and with another number of them
words_odd : (c : ConfigNumbers) → eqb c.cqs c.pairs ≡ false → codes "config2" ∷ ten_words c ≡ config_words c
words_odd c e = sym (ap (λ t. cond t (codes "config" ∷ nine_words c) (codes "config2" ∷ ten_words c)) e)

-- the parts of a configuration with another number of completion queues
queues_parts : (o : Option ConfigNumbers) (q : Option ℕ) (c : ConfigNumbers) → with_queues o q ≡ Some c
    → (d : ConfigNumbers) × (n : ℕ) × (o ≡ Some d) × (q ≡ Some n) × (eqb n d.pairs ≡ false) × (record d { cqs = n } ≡ c)
queues_parts None q c h = absurd cc
queues_parts (Some d) None c h = absurd cc
queues_parts (Some d) (Some n) c h = by (eqb n d.pairs) refl h
  where
    by : (t : Bool) → eqb n d.pairs ≡ t → cond t None (Some (record d { cqs = n })) ≡ Some c
        → (e : ConfigNumbers) × (m : ℕ) × (Some d ≡ Some e) × (Some n ≡ Some m) × (eqb m e.pairs ≡ false)
        × (record e { cqs = m } ≡ c)
    by true e h = absurd cc
    by false e h = (d, n, refl, refl, e, cc)

-- the words behind `config`
nine_are : (words : List (List ℕ)) (c : ConfigNumbers) → nine_words_in words ≡ Some c
    → codes "config" ∷ words ≡ config_words c
unfolding nine_words_in
nine_are [] c h = absurd cc
nine_are (a ∷ []) c h = absurd cc
nine_are (a ∷ b ∷ []) c h = absurd cc
nine_are (a ∷ b ∷ d ∷ []) c h = absurd cc
nine_are (a ∷ b ∷ d ∷ e ∷ []) c h = absurd cc
nine_are (a ∷ b ∷ d ∷ e ∷ f ∷ []) c h = absurd cc
nine_are (a ∷ b ∷ d ∷ e ∷ f ∷ g ∷ []) c h = absurd cc
nine_are (a ∷ b ∷ d ∷ e ∷ f ∷ g ∷ i ∷ []) c h = absurd cc
nine_are (a ∷ b ∷ d ∷ e ∷ f ∷ g ∷ i ∷ j ∷ []) c h = absurd cc
nine_are (a ∷ b ∷ d ∷ e ∷ f ∷ g ∷ i ∷ j ∷ k ∷ []) c h =
    let p = nine_is a b d e f g i j k [] c h in
    ap (λ l. codes "config" ∷ l) p.0 ∙ words_even c p.1
nine_are (a ∷ b ∷ d ∷ e ∷ f ∷ g ∷ i ∷ j ∷ k ∷ l ∷ words) c h = absurd cc

-- the words behind `config2`
ten_are : (words : List (List ℕ)) (c : ConfigNumbers) → ten_words_in words ≡ Some c
    → codes "config2" ∷ words ≡ config_words c
unfolding ten_words_in
ten_are [] c h = absurd cc
ten_are (a ∷ []) c h = absurd cc
ten_are (a ∷ b ∷ []) c h = absurd cc
ten_are (a ∷ b ∷ d ∷ []) c h = absurd cc
ten_are (a ∷ b ∷ d ∷ e ∷ []) c h = absurd cc
ten_are (a ∷ b ∷ d ∷ e ∷ f ∷ []) c h = absurd cc
ten_are (a ∷ b ∷ d ∷ e ∷ f ∷ g ∷ []) c h = absurd cc
ten_are (a ∷ b ∷ d ∷ e ∷ f ∷ g ∷ i ∷ []) c h = absurd cc
ten_are (a ∷ b ∷ d ∷ e ∷ f ∷ g ∷ i ∷ j ∷ []) c h = absurd cc
ten_are (a ∷ b ∷ d ∷ e ∷ f ∷ g ∷ i ∷ j ∷ k ∷ []) c h = absurd cc
ten_are (a ∷ b ∷ d ∷ e ∷ f ∷ g ∷ i ∷ j ∷ k ∷ l ∷ []) c h =
    let o = queues_parts (nine_in a b d e f g i j k) (number_in 16 l) c h in
    let p = nine_is a b d e f g i j k (l ∷ []) o.0 o.2 in
    ap (λ w. codes "config2" ∷ w) (p.0 ∙ ap (λ w. nine_words o.0 ++ w ∷ []) (number_is 16 o.1 l o.3).0)
    ∙ words_odd (record o.0 { cqs = o.1 }) o.4
    ∙ ap config_words o.5
ten_are (a ∷ b ∷ d ∷ e ∷ f ∷ g ∷ i ∷ j ∷ k ∷ l ∷ m ∷ words) c h = absurd cc

-- words that are read are those of the configuration
words_are : (words : List (List ℕ)) (c : ConfigNumbers) → config_words_in words ≡ Some c → words ≡ config_words c
unfolding config_words_in
words_are [] c h = absurd cc
words_are (kind ∷ words) c h = by (bytes_eq kind (codes "config")) (bytes_eq kind (codes "config2")) refl refl h
  where
    by : (p q : Bool) → bytes_eq kind (codes "config") ≡ p → bytes_eq kind (codes "config2") ≡ q
        → cond p (nine_words_in words) (cond q (ten_words_in words) None) ≡ Some c → kind ∷ words ≡ config_words c
    by true q x y h = ap (λ k. k ∷ words) (bytes_eq_true kind (codes "config") x) ∙ nine_are words c h
    by false true x y h = ap (λ k. k ∷ words) (bytes_eq_true kind (codes "config2") y) ∙ ten_are words c h
    by false false x y h = absurd cc

-- a line that is read is that of the configuration
pub config_is : (line : List ℕ) (c : ConfigNumbers) → config_in line ≡ Some c → line ≡ config_line c
unfolding config_in
config_is line c h = sym (join_with_byte-slice_split 32 line)
    ∙ ap (join_with_byte 32) (words_are (slice_split (λ b. eqb b 32) line) c h)

-- ---- what has the line is read

-- the numbers of the cut
atomic_again : (c : ConfigNumbers) → HasConfigLine c
    → atomic_from (number_in 16 (decimal c.atomic.awun)) (number_in 16 (decimal c.atomic.acwu))
    (number_in 16 (decimal c.atomic.nabsn)) (number_in 16 (decimal c.atomic.nabo)) ≡ Some c.atomic
atomic_again c is =
    let u : AtomicParameters = c.atomic in
    ap (λ o. atomic_from o (number_in 16 (decimal u.acwu)) (number_in 16 (decimal u.nabsn))
    (number_in 16 (decimal u.nabo))) (number_16 u.awun is.awun)
    ∙ ap (λ o. atomic_from (Some u.awun) o (number_in 16 (decimal u.nabsn)) (number_in 16 (decimal u.nabo)))
    (number_16 u.acwu is.acwu)
    ∙ ap (λ o. atomic_from (Some u.awun) (Some u.acwu) o (number_in 16 (decimal u.nabo))) (number_16 u.nabsn is.nabsn)
    ∙ ap (atomic_from (Some u.awun) (Some u.acwu) (Some u.nabsn)) (number_16 u.nabo is.nabo)

-- the nine numbers
nine_again : (c : ConfigNumbers) → HasConfigLine c
    → nine_in (decimal c.blocks) (decimal c.atomic.awun) (decimal c.atomic.acwu) (decimal c.atomic.nabsn)
    (decimal c.atomic.nabo) (decimal c.pairs) (decimal c.sq_size) (decimal c.cq_size) (decimal c.jobs)
    ≡ Some (record c { cqs = c.pairs })
nine_again c is =
    let u : Option AtomicParameters =
    atomic_from (number_in 16 (decimal c.atomic.awun)) (number_in 16 (decimal c.atomic.acwu))
    (number_in 16 (decimal c.atomic.nabsn)) (number_in 16 (decimal c.atomic.nabo)) in
    let p : Option ℕ = number_in 16 (decimal c.pairs) in
    let s : Option ℕ = number_in 16 (decimal c.sq_size) in
    let q : Option ℕ = number_in 16 (decimal c.cq_size) in
    let j : Option ℕ = number_in 16 (decimal c.jobs) in
    ap (λ o. config_from o u p s q j) (number_32 c.blocks is.blocks)
    ∙ ap (λ o. config_from (Some c.blocks) o p s q j) (atomic_again c is)
    ∙ ap (λ o. config_from (Some c.blocks) (Some c.atomic) o s q j) (number_16 c.pairs is.pairs)
    ∙ ap (λ o. config_from (Some c.blocks) (Some c.atomic) (Some c.pairs) o q j) (number_16 c.sq_size is.sq_size)
    ∙ ap (λ o. config_from (Some c.blocks) (Some c.atomic) (Some c.pairs) (Some c.sq_size) o j)
    (number_16 c.cq_size is.cq_size)
    ∙ ap (config_from (Some c.blocks) (Some c.atomic) (Some c.pairs) (Some c.sq_size) (Some c.cq_size))
    (number_16 c.jobs is.jobs)

-- the words of a configuration are read as it, whichever of the two lines it has
words_back : (c : ConfigNumbers) (t : Bool) → HasConfigLine c → eqb c.cqs c.pairs ≡ t
    → config_words_in (cond t (codes "config" ∷ nine_words c) (codes "config2" ∷ ten_words c)) ≡ Some c
unfolding config_words_in nine_words_in ten_words_in
words_back c true is e = nine_again c is ∙ ap (λ n. Some (record c { cqs = n })) (sym (eqb-true c.cqs c.pairs e))
words_back c false is e =
    ap (λ o. with_queues o (number_in 16 (decimal c.cqs))) (nine_again c is)
    ∙ ap (with_queues (Some (record c { cqs = c.pairs }))) (number_16 c.cqs is.cqs)
    ∙ ap (λ t. cond t None (Some c)) e

-- no number of a configuration has a space
numbers_spaceless : (c : ConfigNumbers) (more : List (List ℕ)) → HasConfigLine c → AllByRecursion (Without 32) more
    → AllByRecursion (Without 32) (nine_words c ++ more)
numbers_spaceless c more is others = (
  spaceless_32 c.blocks is.blocks,
  (
    spaceless_16 c.atomic.awun is.awun,
    (
      spaceless_16 c.atomic.acwu is.acwu,
      (
        spaceless_16 c.atomic.nabsn is.nabsn,
        (
          spaceless_16 c.atomic.nabo is.nabo,
          (
            spaceless_16 c.pairs is.pairs,
            (
              spaceless_16 c.sq_size is.sq_size,
              (spaceless_16 c.cq_size is.cq_size, (spaceless_16 c.jobs is.jobs, others)),
            ),
          ),
        ),
      ),
    ),
  ),
)
  where
    spaceless_16 : (n : ℕ) → n < 2 ^ 16 → Without 32 (decimal n)
    spaceless_16 n small = decimal_spaceless n (omega arith)

    spaceless_32 : (n : ℕ) → n < 2 ^ 32 → Without 32 (decimal n)
    spaceless_32 n small = decimal_spaceless n (omega arith)

-- the line of a configuration is split into its words
split_again : (c : ConfigNumbers) (t : Bool) → HasConfigLine c
    → slice_split (λ b. eqb b 32)
    (join_with_byte 32 (cond t (codes "config" ∷ nine_words c) (codes "config2" ∷ ten_words c)))
    ≡ cond t (codes "config" ∷ nine_words c) (codes "config2" ∷ ten_words c)
split_again c true is =
    words_again 32 (codes "config") (nine_words c) (refl, (refl, (refl, (refl, (refl, (refl, tt))))))
    (numbers_spaceless c [] is tt)
split_again c false is =
    words_again 32 (codes "config2") (ten_words c) (refl, (refl, (refl, (refl, (refl, (refl, (refl, tt)))))))
    (numbers_spaceless c (decimal c.cqs ∷ []) is (decimal_spaceless c.cqs (below is.cqs), tt))
  where
    below : {n : ℕ} → n < 2 ^ 16 → n < 2 ^ 64
    below h = omega arith

-- the line of a configuration is read as it
pub config_again : (c : ConfigNumbers) → HasConfigLine c → config_in (config_line c) ≡ Some c
unfolding config_in
config_again c is = ap config_words_in (split_again c (eqb c.cqs c.pairs) is) ∙ words_back c (eqb c.cqs c.pairs) is refl

-- ---- at the call

-- what is read has the line
pub config_found : (line : List ℕ) (r : Result ConfigNumbers LineFault) → GivesRead r (config_in line)
    → IfOk r (λ c. line ≡ config_line c)
config_found line (Ok c) h = config_is line c h
config_found line (Err f) h = tt

-- what has the line is read
pub config_only : (line : List ℕ) (r : Result ConfigNumbers LineFault) (c : ConfigNumbers)
    → GivesRead r (config_in line)
    → HasConfigLine c → line ≡ config_line c → GivesRead r (Some c)
config_only line r c h is same = subst (GivesRead r) (ap config_in same ∙ config_again c is) h
