use Rattle.std.proofs.Common.{◌≡◌, true, sym, subst}
use Rattle.flow_doc.specs.Fits.{doc_fits}
use Rattle.flow_tests_plain.proofs.work.run.Goals as goal

pub run_with-requires-clause-fits : goal.run_with-requires-clause-fits
run_with-requires-clause-fits g c = subst (λ n. doc_fits n c.args.doc.now ≡ true) (sym c.shelf_of-shelf.ensures) c.requires.fits
