-- What is meant by the bytes that arrived, by the frame's answer: each of its two cases says which part of the statement speaks. Assumes nothing.
use mathlib.Core.Path.{◌≡◌, sym, ap, subst, ◌∙◌}
use mathlib.Core.List.{List}
use Prim.Native.Nat.{ℕ, ◌+◌}
use Rattle.std.specs.Prelude.{Result, Ok, Err}
use Rattle.refusal.specs.declared.{Broken.Broken, Refusal.Refusal}
use Rattle.frame.specs.Frame.{Framed, framed_of, payload_of, used_of}
use Rattle.record.specs.declared.Counted.{Counted}
use Rattle.record.specs.Meant.{refuses, Meant}
use Rattle.reading.specs.declared.Unframed.{Unframed}
use Rattle.reading.specs.Framed.{answer_in, MeantFramed}

module _ (s d : List ℕ) where
  module _ (k : Refusal) (e : framed_of s ≡ Err k) where
    pub refused_meant : (t : Result Counted Broken) → t ≡ Err (record { refusal = k; place = 0 }) → MeantFramed s d (record { used = 0; told = t }) d
    refused_meant t q = record {
      used = sym (ap used_of e);
      refused = λ j f. let same : k ≡ j = cc (sym e ∙ f) in ap (λ (x : Result Counted Broken). record { told = x; lent = d }) q ∙ ap (λ (x : Refusal). refuses x d) same;
      whole = λ n f. absurd (cc (sym e ∙ f));
    }

  module _ (k : ℕ) (e : framed_of s ≡ Ok k) where
    pub whole_meant : (t : Result Counted Broken) (l : List ℕ) → Meant (payload_of k s) d (record { told = t; lent = l })
        → MeantFramed s d (record { used = 12 + k; told = t }) l
    whole_meant t l m = record {
      used = sym (ap used_of e);
      refused = λ j f. absurd (cc (sym e ∙ f));
      whole = λ n f. let same : k ≡ n = cc (sym e ∙ f) in subst (λ (x : ℕ). Meant (payload_of x s) d (record { told = t; lent = l })) same m;
    }
