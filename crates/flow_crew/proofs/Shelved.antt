-- The bodies of nodes for which there is code stand on the shelf.
use Rattle.std.proofs.Common.{◌≡◌, ℕ, ◌<◌, true, ltb, Option, Some, List, arith}
use Rattle.std.proofs.lemmas.Bool.{ltb-true}
use Rattle.std.specs.Prelude.{slice_get}
use Rattle.std.specs.List.{list_all}
use Rattle.flow_item.specs.declared.val.Val.{Val}
use Rattle.flow_item.specs.Values as v
use Rattle.flow_item.proofs.Tests.{and_left}
use Rattle.flow_shape.specs.declared.Kind.{Kind}
use Rattle.flow_shape.specs.declared.Kind.TheVariants as K
use Rattle.flow_shape.proofs.Sorting.{all-at}
use Rattle.flow_doc.specs.Fits.{kind_fits}
use Rattle.flow_node.specs.Built.{is_built}
use Rattle.flow_book.specs.declared.job.JobBody.{JobBody}
use Rattle.flow_book.specs.declared.job.JobBody.TheVariants as J
use Rattle.flow_book.specs.Jobs.{body_of}

run-number : (a b : ℕ) (x y : Val) → (let s : Option JobBody = Some (J.Run a x) in s) ≡ Some (J.Run b y) → a ≡ b
run-number a b x y h = cc

kind-there : (k : Kind) (bodies body : ℕ) (arg : Val) → body_of k ≡ Some (J.Run body arg) → is_built k ≡ true → kind_fits bodies k ≡ true → body < bodies
kind-there (K.Function reject limit b a) bodies body arg h built fits =
    let same : b ≡ body = run-number b body a arg h in
    let below : b < bodies = ltb-true b bodies (and_left (ltb b bodies) (v.fits a) fits) in
    omega (arith, same, below)
kind-there (K.Multi reject limit b a outs) bodies body arg h built fits = cc
kind-there (K.Input b a) bodies body arg h built fits = cc
kind-there (K.Continue b a) bodies body arg h built fits = cc
kind-there k bodies body arg h built fits = cc

kind-runs : (k : Kind) (arg : Val) → body_of k ≡ Some (J.Submit arg) → is_built k ≡ true → ⊥
kind-runs (K.Async reject limit a) arg h built = cc
kind-runs k arg h built = cc

-- the body is one of the shelf
pub body-there : (nodes : List Kind) (n : ℕ) (k : Kind) (bodies body : ℕ) (arg : Val) → slice_get nodes n ≡ Some k → body_of k ≡ Some (J.Run body arg)
    → list_all is_built nodes ≡ true → list_all (kind_fits bodies) nodes ≡ true → body < bodies
body-there nodes n k bodies body arg at h built fits = kind-there k bodies body arg h (all-at is_built nodes n k built at) (all-at (kind_fits bodies) nodes n k fits at)

-- nothing is submitted
pub body-runs : (nodes : List Kind) (n : ℕ) (k : Kind) (arg : Val) → slice_get nodes n ≡ Some k → body_of k ≡ Some (J.Submit arg) → list_all is_built nodes ≡ true → ⊥
body-runs nodes n k arg at h built = kind-runs k arg h (all-at is_built nodes n k built at)
