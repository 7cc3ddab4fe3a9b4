use Rattle.std.proofs.Common.{arith}
use Rattle.slot_page.proofs.Puts.{put_after_all, tid_after_all}
use Rattle.slot_page.proofs.page_list.put_after.Goals as goal

pub returns-clause-tid : goal.returns-clause-tid
returns-clause-tid g c = tid_after_all c.args.size c.len.result c.args.pages.now.items (omega (arith, c.len.ensures)) c.requires.full

pub returns-clause-put : goal.returns-clause-put
returns-clause-put g c = put_after_all c.args.size c.args.item c.args.pages.now.items _ c.in_ok-page.page c.requires.full c.in_ok-page.ensures c.in_ok-push.ensures.items
