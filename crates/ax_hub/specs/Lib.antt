pub mod BrowserCalls
pub mod Seats
pub mod Passed
pub mod Hubs
pub mod Receipts
pub mod Deliveries
pub mod Opening
pub mod Closing
