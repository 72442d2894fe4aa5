use Rattle.std.proofs.Common.{◌≡◌, true, sym, subst}
use Rattle.flow_doc.specs.Fits.{doc_fits}
use Rattle.flow_tests_read.proofs.meaning.meant.Goals as goal

pub determinate-requires : goal.determinate-requires
determinate-requires g c = subst (λ n. doc_fits n c.args.doc.now ≡ true) (sym c.shelf_of-shelf.ensures) c.requires.fits

pub meaning-requires-clause-fits : goal.meaning-requires-clause-fits
meaning-requires-clause-fits g c = subst (λ n. doc_fits n c.args.doc.now ≡ true) (sym c.shelf_of-shelf.ensures) c.requires.fits
