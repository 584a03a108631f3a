-- Recorded frames, played again, have one result and no second. By play's law of one frame. Assumes nothing.
use mathlib.Core.Path.{◌≡◌, refl, sym, ap₂, subst, ◌∙◌}
use mathlib.Core.List.{List, [], ◌∷◌}
use Rattle.std.specs.Prelude.{Option}
use Rattle.play.specs.declared.Credited.{Credited}
use Rattle.play.specs.{Play.replaying, Centre.Centre, Centre.PlaysFrame}
use Rattle.play.proofs.Settled.{frame_told, centre_once, reading_once}
use Rattle.live.specs.Live.{Bill, billed, Frame, PlaysAll}

pub plays_all : (x : Centre) (l : List Frame) → (bs : List Bill) × ((y : Centre) × PlaysAll x l bs y)
plays_all x [] = ([], (x, PlaysAll.done x))
plays_all x (f ∷ l) =
    let p = frame_told replaying x f.station f.frame in
    let q = plays_all p.0 l in
    (billed f.station p.1.0 q.0, (q.1.0, PlaysAll.plays x p.0 q.1.0 f l q.0 p.1.0 p.1.1 q.1.1))

-- the first frame, and the others
pub record First (x : Centre) (f : Frame) (l : List Frame) (bs : List Bill) (z : Centre) : Type 0 where
  pub after : Centre
  pub reading : Option Credited
  pub others : List Bill
  pub plays : PlaysFrame replaying x f.station f.frame after reading
  pub all : PlaysAll after l others z
  pub bills : bs ≡ billed f.station reading others

pub first : (x : Centre) (f : Frame) (l : List Frame) (bs : List Bill) (z : Centre) → PlaysAll x (f ∷ l) bs z → First x f l bs z
first x f l bs z (PlaysAll.plays x' y z' f' l' cs r p q) = record { after = y; reading = r; others = cs; plays = p; all = q; bills = refl }

pub none_left : (x : Centre) (bs : List Bill) (z : Centre) → PlaysAll x [] bs z → (bs ≡ []) × (z ≡ x)
none_left x bs z (PlaysAll.done x') = (refl, refl)

pub plays_all_once : (x y z : Centre) (l : List Frame) (bs cs : List Bill) → PlaysAll x l bs y → PlaysAll x l cs z → (bs ≡ cs) × (y ≡ z)
plays_all_once x y z [] bs cs p q =
    let a = none_left x bs y p in
    let b = none_left x cs z q in
    (a.0 ∙ sym b.0, a.1 ∙ sym b.1)
plays_all_once x y z (f ∷ l) bs cs p q =
    let a = first x f l bs y p in
    let b = first x f l cs z q in
    let e = centre_once replaying x f.station f.frame a.after b.after a.reading b.reading a.plays b.plays in
    let r = reading_once replaying x f.station f.frame a.after b.after a.reading b.reading a.plays b.plays in
    let o = plays_all_once b.after y z l a.others b.others (subst (λ (w : Centre). PlaysAll w l a.others y) e a.all) b.all in
    (a.bills ∙ ap₂ (λ (t : Option Credited) (ds : List Bill). billed f.station t ds) r o.0 ∙ sym b.bills, o.1)
