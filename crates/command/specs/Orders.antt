-- Internal. What one state may come to, as a relation that each step keeps.

-- to come to what one is, no step is needed
abbrev pub Reflexive : {A : Type 0} → (A → A → Type 0) → Type 0
Reflexive {A = A} R = (a : A) → R a a

-- and some steps after others are steps
abbrev pub Transitive : {A : Type 0} → (A → A → Type 0) → Type 0
Transitive {A = A} R = (a b c : A) → R a b → R b c → R a c
