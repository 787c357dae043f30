-- A disk of which one host is another.
use Rattle.std.proofs.Common.{Bool, Err, List, None, Ok, Option, Result, Some, [], ap, arith, cond, eq-eqb, eqb}
use Rattle.std.proofs.Common.{eqb-true, false, inl, inr, length, refl, subst, suc, sym, true, zero, ℕ, ◌+◌}
use Rattle.std.proofs.lemmas.List.{length-map, map-set}
use Rattle.std.proofs.Common.{◌-◌, ◌<◌, ◌∙◌, ◌∷◌, ◌≡◌, ◌≤◌}
use Rattle.std.specs.Prelude.{map, slice_get, slice_set, ⊤}
use Rattle.std.proofs.lemmas.Bool.{cases_Bool}
use Rattle.std.proofs.lemmas.Option.{slice_get_past}
use Rattle.nvme_model.specs.declared.array.Range.{Range}
use Rattle.nvme_model.specs.declared.config.ConfigNumbers.{ConfigNumbers}
use Rattle.plain_lemmas.proofs.Options.{some_one}
use Rattle.driver_cas.specs.contracts.shared_port.SharedPortPort.TheImpl.{ghosts}
use Rattle.driver_cas.specs.declared.shared_port.SharedPort.{SharedPort}
use Rattle.slot_host.proofs.Places.{none_some}
use Rattle.slot_host.specs.declared.not_begun.NotBegun.{NotBegun}
use Rattle.slot_host.specs.declared.slot_host.SlotHost.{SlotHost}
use Rattle.slot_host.specs.declared.slot_told.SlotTold.{SlotTold}
use Rattle.slot_disk.specs.Asks.{IsAsked, IsAskedOf, IsPolled, IsPolledOf, told_of}
use Rattle.slot_disk.specs.Hosts.{host_view, views}
use Rattle.slot_disk.specs.Views.{DiskView, HostView, IsNoHost, disk_of, has, has_slot, host_in, is_had_by}
use Rattle.slot_disk.specs.declared.unasked.Unasked.{Unasked}

-- where there are so many hosts there is none of this number
no_host : (d : DiskView) (h : ℕ) → IsNoHost h (length d.hosts) → host_in d h ≡ None
no_host d h x = go (eqb h 0) refl
  where
    go : (b : Bool) → eqb h 0 ≡ b → cond b None (slice_get d.hosts (h - 1)) ≡ None
    go true e = refl
    go false e = elim x [
      | inl z ↦ absurd (let a = sym (eq-eqb h 0 z) ∙ e in cc)
      | inr above ↦ slice_get_past d.hosts (h - 1) (omega (arith, above))
    ]

-- the host at a place
host_there : (d : DiskView) (h k : ℕ) (v : HostView) → k + 1 ≡ h → slice_get d.hosts k ≡ Some v → host_in d h ≡ Some v
host_there d h k v is e = go (eqb h 0) refl
  where
    go : (b : Bool) → eqb h 0 ≡ b → cond b None (slice_get d.hosts (h - 1)) ≡ Some v
    go true z = let f = eqb-true h 0 z in absurd (omega (arith, f, is))
    go false z = let f : h - 1 ≡ k = omega (arith, is) in ap (slice_get d.hosts) f ∙ e

view_there : (hs : List (SlotHost SharedPort ghosts)) (k : ℕ) (s : SlotHost SharedPort ghosts) → slice_get hs k ≡ Some s
    → slice_get (views hs) k ≡ Some (host_view s)
view_there [] k s e = none_some s e
view_there (x ∷ hs) zero s e = ap (λ z. Some (host_view z)) (some_one x s e)
view_there (x ∷ hs) (suc k) s e = view_there hs k s e

module _ (c : ConfigNumbers) (slots : Range) (hs : List (SlotHost SharedPort ghosts)) (h : ℕ) where
  none_there : IsNoHost h (length hs) → host_in (disk_of c slots (views hs)) h ≡ None
  none_there x =
      no_host (disk_of c slots (views hs)) h
      (subst (λ (n : ℕ). IsNoHost h n) (sym (length-map hs host_view)) x)

  -- ---- where there is no such host

  pub none_asked : (fault : HostView → Option NotBegun) (after : HostView → HostView) → IsNoHost h (length hs)
      → IsAsked fault after (disk_of c slots (views hs)) (disk_of c slots (views hs)) h (Err Unasked.NoHost)
  none_asked fault after x =
      record { none = λ e. (refl, refl); asked = λ v e. none_some v (sym (none_there x) ∙ e) }

  pub none_polled : IsNoHost h (length hs)
      → IsPolled (disk_of c slots (views hs)) (disk_of c slots (views hs)) h None
  none_polled x = record { none = λ e. (refl, refl); polled = λ v e. none_some v (sym (none_there x) ∙ e) }

  pub none_has : (i : ℕ) → IsNoHost h (length hs) → has (disk_of c slots (views hs)) h i ≡ false
  none_has i x = ap (λ (o : Option HostView). is_had_by o i) (none_there x)

  -- ---- where there is one

  module _ (k : ℕ) (s : SlotHost SharedPort ghosts) (is : k + 1 ≡ h) (here : slice_get hs k ≡ Some s) where
    one_there : host_in (disk_of c slots (views hs)) h ≡ Some (host_view s)
    one_there = host_there (disk_of c slots (views hs)) h k (host_view s) is (view_there hs k s here)

    with_one : (t : SlotHost SharedPort ghosts)
        → disk_of c slots (views (slice_set hs k t)) ≡ disk_of c slots (slice_set (views hs) (h - 1) (host_view t))
    with_one t =
        let place : k ≡ h - 1 = omega (arith, is) in
        ap (disk_of c slots) (map-set host_view hs k t ∙ ap (λ (n : ℕ). slice_set (views hs) n (host_view t)) place)

    pub one_asked : (t : SlotHost SharedPort ghosts) (fault : HostView → Option NotBegun) (after : HostView → HostView)
        (r : Result ⊤ NotBegun) (told : Result ⊤ Unasked) → IsAskedOf fault after (host_view s) (host_view t) r
        → told ≡ told_of r
        → IsAsked fault after (disk_of c slots (views hs)) (disk_of c slots (views (slice_set hs k t))) h told
    one_asked t fault after r told x e =
        record {
          none = λ f. none_some (host_view s) (sym f ∙ one_there);
          asked = λ v f.
              let same : host_view s ≡ v = some_one (host_view s) v (sym one_there ∙ f) in (
                host_view t,
                r,
                subst (λ (z : HostView). IsAskedOf fault after z (host_view t) r) same x,
                e,
                with_one t,
              );
        }

    pub one_polled : (t : SlotHost SharedPort ghosts) (told : Option SlotTold)
        → IsPolledOf (host_view s) (host_view t) told
        → IsPolled (disk_of c slots (views hs)) (disk_of c slots (views (slice_set hs k t))) h told
    one_polled t told x =
        record {
          none = λ f. none_some (host_view s) (sym f ∙ one_there);
          polled = λ v f.
              let same : host_view s ≡ v = some_one (host_view s) v (sym one_there ∙ f) in
              (host_view t, subst (λ (z : HostView). IsPolledOf z (host_view t) told) same x, with_one t);
        }

    pub one_has : (i : ℕ) → has (disk_of c slots (views hs)) h i ≡ has_slot (host_view s) i
    one_has i = ap (λ (o : Option HostView). is_had_by o i) one_there
