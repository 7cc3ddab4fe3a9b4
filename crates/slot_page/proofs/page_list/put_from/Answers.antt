use Rattle.slot_page.proofs.Puts.{put_found, tid_found}
use Rattle.slot_page.proofs.page_list.put_from.Goals as goal

pub returns-in-Ok-clause-tid : goal.returns-in-Ok-clause-tid
returns-in-Ok-clause-tid g c = tid_found c.args.size c.loop-page.page c.in-Ok.slot c.loop-page.pages c.args.pages.now c.index-pages-page.result c.loop-page.invariant.same c.loop-page-test.true c.loop-page.invariant.full_below c.in-Ok.ensures.fits c.in-Ok.ensures.slot

pub returns-in-Ok-clause-put : goal.returns-in-Ok-clause-put
returns-in-Ok-clause-put g c = put_found c.args.size c.loop-page.page c.args.item c.loop-page.held c.loop-page.pages c.args.pages.now c.index-pages-page.result c.put.new.self c.loop-page.invariant.same c.loop-page.invariant.item c.loop-page-test.true c.loop-page.invariant.full_below c.in-Ok.ensures.fits c.in-Ok.ensures.put
