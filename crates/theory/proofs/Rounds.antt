-- A way round a loop, shown once: what holds after it, and that less is left. Assumes nothing.
pub both : {C : Type 0} {Holds Less : C → Type 0} → ((c : C) → Holds c × Less c) → ((c : C) → Holds c) × ((c : C) → Less c)
both f = (λ c. (f c).0, λ c. (f c).1)
