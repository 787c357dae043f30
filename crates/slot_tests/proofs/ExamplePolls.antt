-- What a poll of a claim gives, decided by computing: host 1 claimed slot 0, and its second completion came.
use Rattle.std.proofs.Common.{List, None, Ok, Some, [], ap, ap₂, arith, inr, length, refl, subst, sym, true, ℕ, ◌++◌}
use Rattle.std.proofs.Common.{◌≡◌, ◌∙◌, ◌∷◌}
use Rattle.nvme_model.specs.Array.{zeros}
use Rattle.nvme_model.specs.Examples.{cqe, submit}
use Rattle.nvme_model.specs.Slots.{Name, slot_block}
use Rattle.nvme_model.specs.declared.operation.Op.{Op}
use Rattle.nvme_model.specs.declared.submission.Submission.{Submission}
use Rattle.driver_calls.specs.declared.event.PortEvent.{PortEvent}
use Rattle.driver_calls.specs.declared.reply.Reply.{Reply}
use Rattle.driver_cas.specs.Drivers.{AsksPort, IsSameDriver, answer_to, area_of, made, number_of}
use Rattle.driver_cas.specs.Made.{after_answer}
use Rattle.driver_cas.specs.declared.call.Call.{Call}
use Rattle.driver_cas.specs.declared.driver.Driver.{Driver}
use Rattle.driver_cas.specs.declared.port.Port.{Ghosts}
use Rattle.slot_alloc.specs.Claims.{IsWonBy}
use Rattle.slot_alloc.specs.Progresses.{IsPolled, IsQuiet}
use Rattle.slot_alloc.specs.SlotRules.{own_name}
use Rattle.slot_alloc.specs.Areas.{block_of}
use Rattle.slot_log_laws.specs.Calls.{IsClaimIn, IsName}
use Rattle.slot_log_laws.specs.Swaps.{log_believed}
use Rattle.nvme_model.specs.declared.array.Range.{Range}
use Rattle.slot_alloc.specs.declared.claiming.Claiming.{Claiming}
use Rattle.slot_alloc.specs.declared.progress.Progress.{Progress}

-- a port that is what it did
abbrev Log : Type 0
Log = List PortEvent

abbrev toy : Ghosts Log
toy = record {
  log = λ p. p;
  steps = length;
  owns = λ p q. true;
  follows = λ a b. (later : Log) × (b ≡ later ++ a);
  accepts = λ a b q batch. Unit {0};
  refuses = λ a b q batch fault. Unit {0};
  reaps = λ a b r. b ≡ after_answer r a;
  says = λ before start now q j o r. Unit {0};
}

-- the claim's pair, under the CIDs 0 and 1
abbrev claim : List Submission
claim = submit 5 1 0 0 0 zeros ∷ submit 1 2 1 0 0 (slot_block (record { host = 1; serial = 1 })) ∷ []

-- it was published, and its first completion came, and its second
abbrev published : Log
published = PortEvent.Sent 1 claim ∷ []

abbrev half : Log
half = PortEvent.Got (cqe 2 0 1 0 0 0 1 0) [] ∷ published

abbrev whole : Log
whole = PortEvent.Got (cqe 2 0 1 0 1 0 1 0) [] ∷ half

-- a driver of host 1 with one slot, at block 0, that drew one serial, whose port did this
pub record IsHost (d : Driver Log toy) (log : Log) : Type 0 where
  pub began : d.began.value ≡ []
  pub port : d.port ≡ log
  pub host : d.host ≡ 1
  pub slots : d.slots ≡ record { slba = 0; blocks = 1 }
  pub serial : d.serial ≡ 1

-- its call of the claim
pub record IsClaim (c : Call Log) : Type 0 where
  pub op : c.op ≡ Op.Pair
  pub queue : c.queue ≡ 1
  pub first : c.first ≡ 0
  pub second : c.second ≡ 1
  pub start : c.start.value ≡ []

waits : (d : Driver Log toy) (c : Call Log) → IsHost d half → IsClaim c → answer_to d c ≡ None
waits d c h k = rw (k.op, k.queue, k.first, k.second, h.began, h.port) refl

wins : (e : Driver Log toy) (c : Call Log) → IsHost e whole → IsClaim c → answer_to e c ≡ Some (Ok Reply.Swapped)
wins e c h k = rw (k.op, k.queue, k.first, k.second, h.began, h.port) refl

-- nothing but the second completion came
quiet : (d e : Driver Log toy) → IsHost d half → IsHost e whole → IsSameDriver d e → IsQuiet d e
quiet d e h i same = record {
  same = same;
  one = inr (cqe 2 0 1 0 1 0 1 0, [], rw (h.began, h.port, i.began, i.port) refl);
}

asks : (d e : Driver Log toy) (c : Call Log) → IsHost d half → IsHost e whole → IsClaim c → AsksPort d e c None
asks d e c h i k = inr (
  waits d c h k,
  record {
    answer = Ok (Some (record { cqe = cqe 2 0 1 0 1 0 1 0; payload = [] }));
    is = rw (h.port, i.port) refl;
    log = rw (h.port, i.port) refl;
    told = refl;
  },
)

-- its claim, by plain values
abbrev name : Name
name = record { host = 1; serial = 1 }

spelled : IsName name
spelled = record {
  host = omega arith;
  host_fits = omega arith;
  serial = omega arith;
  serial_fits = omega arith;
}

claim_in : IsClaimIn whole 1 0 1 0 0 name
claim_in = record {
  name = spelled;
  batch = claim;
  is = (record { entry = (refl, refl); beside = refl }, record { entry = (refl, refl); beside = refl });
  sent_as = record {
    later = PortEvent.Got (cqe 2 0 1 0 1 0 1 0) [] ∷ PortEvent.Got (cqe 2 0 1 0 0 0 1 0) [] ∷ [];
    before = [];
    whole = refl;
    number = refl;
  };
  call = (
    record {
      first = submit 5 1 0 0 0 zeros;
      second = submit 1 2 1 0 0 (slot_block name);
      first_there = refl;
      second_there = refl;
      first_fuse = refl;
      second_fuse = refl;
    },
    refl,
    refl,
  );
}

moved : (log : Log) (q first second j : ℕ) (n : Name) → log ≡ whole → q ≡ 1 → first ≡ 0 → second ≡ 1 → j ≡ 0 → n ≡ name
    → IsClaimIn log q first second j 0 n
moved log q first second j n a b d e f g = rw (a, b, d, e, f, g) claim_in

made_is : (e : Driver Log toy) → IsHost e whole → made e ≡ whole
made_is e i = rw (i.began, i.port) refl

number_is : (e : Driver Log toy) (c : Call Log) → IsHost e whole → IsClaim c → number_of e c ≡ 0
number_is e c i k = rw (i.began, k.queue, k.start) refl

name_is : (e : Driver Log toy) → IsHost e whole → own_name e 1 ≡ name
name_is e i = ap (λ h. record { host = h; serial = 1 }) i.host

claimed : (e : Driver Log toy) (c : Call Log) → IsHost e whole → IsClaim c
    → IsClaimIn (made e) c.queue c.first c.second (number_of e c) 0 (own_name e 1)
claimed e c i k = moved _ _ _ _ _ _ (made_is e i) k.queue k.first k.second (number_is e c i k) (name_is e i)

-- by a log that is this the name is believed of the slot
believes : (log : Log) (slots : Range) (n : Name) → log ≡ whole → slots ≡ record { slba = 0; blocks = 1 } → n ≡ name
    → log_believed log (block_of slots 0) n ≡ true
believes log slots n a b d = rw (a, b, d) refl

won : (e : Driver Log toy) → IsHost e whole → IsWonBy e (record { slot = 0; serial = 1 })
won e i = record {
  inside = rw i.slots (omega arith);
  name = subst IsName (sym (name_is e i)) spelled;
  drawn = rw i.serial (omega arith);
  believed = λ none. believes _ _ _ (made_is e i) i.slots (name_is e i);
}

-- the block of slot 0
block_is : (e : Driver Log toy) (slot : ℕ) → IsHost e whole → slot ≡ 0 → block_of (area_of e) slot ≡ 0
block_is e slot i is = ap₂ block_of i.slots is

-- so the host holds the slot
pub held : (d e : Driver Log toy) (k : Claiming Log toy) (c : Call Log) → IsHost d half → IsHost e whole
    → IsSameDriver d e → IsClaim c → k.slot ≡ 0 → k.began.value.port ≡ []
    → IsPolled d e k c 1 (Progress.Held (record { slot = 0; serial = 1 }))
held d e k c h i same j slot began = (
  sym slot,
  refl,
  record {
    quiet = quiet d e h i same;
    asks = asks d e c h i j;
    answer = wins e c i j;
    says = record {
      at = e;
      same = record { began = refl; host = refl; acwu = refl; slots = refl; queues = refl };
      begun = ([], rw (began, j.start) refl);
      later = ([], refl);
      does = j.op;
      claim = subst (λ lba. IsClaimIn (made e) c.queue c.first c.second (number_of e c) lba (own_name e 1))
          (sym (block_is e k.slot i slot)) (claimed e c i j);
      answer = wins e c i j;
      says = tt;
    };
  },
  won e i,
)

-- before its second completion it doesn't
pub early : (d e : Driver Log toy) (k : Claiming Log toy) (c : Call Log) → IsHost e half → IsClaim c
    → IsPolled d e k c 1 (Progress.Held (record { slot = 0; serial = 1 })) → ⊥
early d e k c i j p = let f : None ≡ Some (Ok Reply.Swapped) = sym (waits e c i j) ∙ p.2.answer in cc
