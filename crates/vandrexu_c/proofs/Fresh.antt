-- Why no host is made.
use Rattle.std.proofs.Common.{arith, inl, inr, ℕ, ◌≡◌}
use Rattle.c_handles.specs.Making.{MayRefuseHost}
use Rattle.c_handles.specs.declared.disk.Disk.{Disk}

-- why no host is made is never told as 0
pub refused_told : (d : Disk) (number queue told : ℕ) → MayRefuseHost d number queue told → told ≡ 0 → ⊥
refused_told d number queue told x none = elim x [
  | inl a ↦ omega (arith, a.0, none)
  | inr y ↦ elim y [
    | inl a ↦ omega (arith, a.0, none)
    | inr y2 ↦ elim y2 [
      | inl a ↦ omega (arith, a.0, none)
      | inr y3 ↦ elim y3 [
        | inl a ↦ omega (arith, a.0, none)
        | inr y4 ↦ elim y4 [ inl a ↦ omega (arith, a.0, none) | inr a ↦ omega (arith, a, none) ]
      ]
    ]
  ]
]
