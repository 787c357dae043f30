-- A configuration line: nine numbers, and a tenth where the completion queues aren't as many as the submission queues.
use Rattle.std.specs.Prelude.{ℕ, ◌^◌, ◌<◌, ◌==◌, List, [], ◌∷◌, ◌++◌, Option, Some, None, if◌then◌else◌, codes, decimal}
use Rattle.std.specs.List.{slice_split, join_with_byte}
use Rattle.std.specs.Str.{bytes_eq}
use Rattle.line_text.specs.Number.{number_in}
use Rattle.nvme_model.specs.declared.config.AtomicParameters.{AtomicParameters}
use Rattle.nvme_model.specs.declared.config.ConfigNumbers.{ConfigNumbers}

-- the words of the nine numbers
abbrev pub nine_words : ConfigNumbers → List (List ℕ)
nine_words c =
    decimal c.blocks ∷ decimal c.atomic.awun ∷ decimal c.atomic.acwu ∷ decimal c.atomic.nabsn ∷ decimal c.atomic.nabo
    ∷ decimal c.pairs ∷ decimal c.sq_size ∷ decimal c.cq_size ∷ decimal c.jobs ∷ []

-- the words of the ten numbers
abbrev pub ten_words : ConfigNumbers → List (List ℕ)
ten_words c = nine_words c ++ decimal c.cqs ∷ []

-- the words of a configuration line
abbrev pub config_words : ConfigNumbers → List (List ℕ)
config_words c = if c.cqs == c.pairs then codes "config" ∷ nine_words c else codes "config2" ∷ ten_words c

-- a configuration line, without its line feed
abbrev pub config_line : ConfigNumbers → List ℕ
config_line c = join_with_byte 32 (config_words c)

-- its numbers are within their types
pub record HasConfigLine (c : ConfigNumbers) : Type 0 where
  pub blocks : c.blocks < 2 ^ 32
  pub awun : c.atomic.awun < 2 ^ 16
  pub acwu : c.atomic.acwu < 2 ^ 16
  pub nabsn : c.atomic.nabsn < 2 ^ 16
  pub nabo : c.atomic.nabo < 2 ^ 16
  pub pairs : c.pairs < 2 ^ 16
  pub sq_size : c.sq_size < 2 ^ 16
  pub cq_size : c.cq_size < 2 ^ 16
  pub jobs : c.jobs < 2 ^ 16
  pub cqs : c.cqs < 2 ^ 16

-- the numbers of the cut, where all four are there
abbrev pub atomic_from : (awun acwu nabsn nabo : Option ℕ) → Option AtomicParameters
atomic_from (Some awun) (Some acwu) (Some nabsn) (Some nabo) =
    Some (record { awun = awun; acwu = acwu; nabsn = nabsn; nabo = nabo })
atomic_from _ _ _ _ = None

-- the configuration of these numbers, where all are there, with as many completion queues as submission queues
abbrev pub config_from : (blocks : Option ℕ) → Option AtomicParameters → (pairs sq cq jobs : Option ℕ) →
    Option ConfigNumbers
config_from (Some blocks) (Some u) (Some pairs) (Some sq) (Some cq) (Some jobs) =
    Some (record { blocks = blocks; atomic = u; pairs = pairs; sq_size = sq; cq_size = cq; jobs = jobs; cqs = pairs })
config_from _ _ _ _ _ _ = None

-- the same configuration with this number of completion queues, which has to be another
abbrev pub with_queues : Option ConfigNumbers → Option ℕ → Option ConfigNumbers
with_queues None cqs = None
with_queues (Some c) None = None
with_queues (Some c) (Some cqs) = if cqs == c.pairs then None else Some (record c { cqs = cqs })

-- the configuration that nine words spell
abbrev pub nine_in : (blocks awun acwu nabsn nabo pairs sq cq jobs : List ℕ) → Option ConfigNumbers
nine_in blocks awun acwu nabsn nabo pairs sq cq jobs =
    config_from (number_in 32 blocks)
    (atomic_from (number_in 16 awun) (number_in 16 acwu) (number_in 16 nabsn) (number_in 16 nabo))
    (number_in 16 pairs) (number_in 16 sq) (number_in 16 cq) (number_in 16 jobs)

-- the configuration that the words behind `config` spell
unfoldable pub nine_words_in : List (List ℕ) → Option ConfigNumbers
nine_words_in (blocks ∷ awun ∷ acwu ∷ nabsn ∷ nabo ∷ pairs ∷ sq ∷ cq ∷ jobs ∷ []) =
    nine_in blocks awun acwu nabsn nabo pairs sq cq jobs
nine_words_in words = None

-- the configuration that the words behind `config2` spell
unfoldable pub ten_words_in : List (List ℕ) → Option ConfigNumbers
ten_words_in (blocks ∷ awun ∷ acwu ∷ nabsn ∷ nabo ∷ pairs ∷ sq ∷ cq ∷ jobs ∷ cqs ∷ []) =
    with_queues (nine_in blocks awun acwu nabsn nabo pairs sq cq jobs) (number_in 16 cqs)
ten_words_in words = None

-- the configuration whose words these are
unfoldable pub config_words_in : List (List ℕ) → Option ConfigNumbers
config_words_in [] = None
config_words_in (kind ∷ words) =
    if bytes_eq kind (codes "config") then nine_words_in words
    else if bytes_eq kind (codes "config2") then ten_words_in words
    else None

-- the configuration whose line this is
unfoldable pub config_in : List ℕ → Option ConfigNumbers
config_in line = config_words_in (slice_split (λ b. b == 32) line)
